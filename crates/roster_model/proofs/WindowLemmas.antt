-- The tables of a zone's days have the window's lengths, and rise, and the month is short.
use Rattle.std.proofs.Common.{◌≡◌, ◌∙◌, sym, ℕ, pos, inl, inr, ◌+◌, ◌-◌, ◌<◌, ◌≤◌, Bool, true, false, not, ◌&&◌, nat_lt, cond, List, length, zero, suc, refl, ap, arith, Option, Some, None, Result, Ok, Err, get_or}
use Rattle.std.specs.List.{list_all, range_with_len, slice_get}
use Rattle.std.specs.List.Sorted.{IsStrictlyIncreasing}
use Rattle.std.proofs.lemmas.Bool.{and_parts, cases_eq}
use Rattle.std.proofs.lemmas.Bool.Decides.{nat_tests}
use Rattle.std.proofs.lemmas.Option.{slice_get_within, slice_get-get_or, get_or_from_slice_get}
use Rattle.std.proofs.lemmas.List.FromFn.{length-map-range_with_len, get_or-map-range_with_len}
use Rattle.jiff_core.proofs.CalendarLemmas.{days_in_month_bounds}
use Rattle.jiff_tz.specs.PosixReader.{read_whole}
use Rattle.jiff_tz.specs.PosixRule.{match_some}
use Rattle.jiff_tz.specs.PosixText.{TzText}
use Rattle.roster_model.proofs.OffsetLemmas.{AreNear, days-short, read-near}
use Rattle.roster_model.specs.declared.limits.TheConstants.{DAYS_BEFORE, MOST_MONTH_MINUTES}
use Rattle.roster_model.specs.Calendar.{Period, Days, IsRising, IsTable, days_of_month, days_of_window, first_day, month_start, month_end}
use Rattle.roster_model.specs.Clocks.{minute_at}
use Rattle.roster_model.specs.Zone.{ZoneRefusal, NotRead, NotMinutes, NotRising, days_of_zone, days_by_rule, days_shown, has_minutes, rises, rises_on, instants_at}

-- what holds of each number of a range holds of the i-th
pub all_of_range : (test : ℕ → Bool) (first n i : ℕ) → list_all test (range_with_len first n) ≡ true → i < n
    → test (first + i) ≡ true
all_of_range test first zero i all h = absurd (omega arith)
all_of_range test first (suc n) zero all h =
    let same : first + 0 ≡ first = omega arith in
    rw same ((and_parts (test first) (list_all test (range_with_len (first + 1) n)) all).0)
all_of_range test first (suc n) (suc i) all h =
    let same : first + suc i ≡ first + 1 + i = omega arith in
    rw same (all_of_range test (first + 1) n i ((and_parts (test first) (list_all test (range_with_len (first + 1) n)) all).1) (omega arith))

-- the i-th of the instants is that of the i-th day
pub instant_is : (zone : TzText) (hour first n i x : ℕ) → slice_get (instants_at zone hour first n) i ≡ Some x
    → (i < n) × (x ≡ minute_at zone (first + i) hour)
instant_is zone hour first n i x h =
    let long = length-map-range_with_len (λ d. minute_at zone d hour) first n in
    let below = slice_get_within (instants_at zone hour first n) i x h in
    let within : i < n = omega arith in
    (within, sym (get_or_from_slice_get (instants_at zone hour first n) i x 0 h) ∙ get_or-map-range_with_len (λ d. minute_at zone d hour) first n i (first + i) 0 within refl)

below_from_test : (a b c d : ℕ) → (nat_lt a b && nat_lt b c && nat_lt c d) ≡ true
    → (a < b) × (b < c) × (c < d)
below_from_test a b c d h = grind (arith, nat_tests)

rises_at : (zone : TzText) (day : ℕ) → rises_on zone day ≡ true → (minute_at zone day 0 < minute_at zone day 8) × (minute_at zone day 8 < minute_at zone day 22) × (minute_at zone day 22 < minute_at zone (day + 1) 0)
rises_at zone day h = below_from_test _ _ _ _ h

ordered : (a b c d mid eight ten next : ℕ) → mid ≡ a → eight ≡ b → ten ≡ c → next ≡ d
    → (a < b) × (b < c) × (c < d) → (mid < eight) × (eight < ten) × (ten < next)
ordered a b c d mid eight ten next e f g h (i, j, k) = (omega arith, omega arith, omega arith)

-- if each day rises, the table does
pub table-rises : (period : Period) (zone : TzText) → rises period zone ≡ true
    → IsRising (days_shown period zone)
table-rises period zone all = record {
  on = λ i mid eight ten next is_mid is_eight is_ten is_next.
      let n = days_of_window period in
      let first = first_day period in
      let a = instant_is zone 0 first (n + 1) i mid is_mid in
      let b = instant_is zone 8 first n i eight is_eight in
      let c = instant_is zone 22 first n i ten is_ten in
      let d = instant_is zone 0 first (n + 1) (i + 1) next is_next in
      let there : first + (i + 1) ≡ first + i + 1 = omega arith in
      let after : next ≡ minute_at zone (first + i + 1) 0 = d.1 ∙ ap (λ day. minute_at zone day 0) there in
      ordered _ _ _ _ mid eight ten next a.1 b.1 c.1 after
      (rises_at zone (first + i) (all_of_range (λ day. rises_on zone day) first n i all b.0));
}

-- the i-th midnight is that of the i-th day
midnight_is : (period : Period) (zone : TzText) (i : ℕ) → i ≤ days_of_window period
    → get_or (days_shown period zone).mid i 0 ≡ minute_at zone (first_day period + i) 0
midnight_is period zone i within =
    get_or-map-range_with_len (λ d. minute_at zone d 0) (first_day period) (days_of_window period + 1) i
    (first_day period + i) 0 (omega arith) refl

-- so the month is short
month-short : (period : Period) (zone : TzText) → AreNear zone
    → month_end (days_shown period zone) ≤ month_start (days_shown period zone) + MOST_MONTH_MINUTES
month-short period zone near =
    let n = days_of_month period in
    let few = (days_in_month_bounds (pos period.year) period.month).0 in
    let there : first_day period + (DAYS_BEFORE + n) ≡ first_day period + DAYS_BEFORE + n = omega arith in
    let short = days-short zone (first_day period + DAYS_BEFORE) n near few in
    rw (midnight_is period zone DAYS_BEFORE (omega arith), midnight_is period zone (DAYS_BEFORE + n) (omega arith), there) short

-- and the table has the window's lengths
pub table-whole : (period : Period) (text : List ℕ) (zone : TzText) → read_whole text ≡ Some zone
    → rises period zone ≡ true → IsTable (days_shown period zone)
table-whole period text zone read all =
    let n = days_of_window period in
    let first = first_day period in
    let month = days_in_month_bounds (pos period.year) period.month in
    let eight = length-map-range_with_len (λ d. minute_at zone d 8) first n in
    let mid = length-map-range_with_len (λ d. minute_at zone d 0) first (n + 1) in
    let ten = length-map-range_with_len (λ d. minute_at zone d 22) first n in
    record {
      least = month.1;
      most = month.0;
      eight = eight;
      mid = mid ∙ ap (λ k. k + 1) (sym eight);
      ten = ten ∙ sym eight;
      rising = table-rises period zone all;
      short = month-short period zone (read-near text zone read);
    }

-- what a rule's days are, where it has some
by_tests : (minutes rising : Bool) (table days : Days) → cond {A = Result Days ZoneRefusal} (not minutes) (Err NotMinutes) (cond (not rising) (Err NotRising) (Ok table)) ≡ Ok days → (minutes ≡ true) × (rising ≡ true) × (table ≡ days)
by_tests true true table days h = (refl, refl, cc)
by_tests true false table days h = absurd (cc)
by_tests false rising table days h = absurd (cc)

pub days_by_rule-table : (period : Period) (zone : TzText) (days : Days) → days_by_rule period zone ≡ Ok days
    → (has_minutes period zone ≡ true) × (rises period zone ≡ true) × (days_shown period zone ≡ days)
unfolding days_by_rule
days_by_rule-table period zone days h =
    by_tests (has_minutes period zone) (rises period zone) (days_shown period zone) days h

by_reading : (period : Period) (read : Option TzText) (days : Days)
    → match_some {B = Result Days ZoneRefusal} read (Err NotRead) (days_by_rule period) ≡ Ok days
    → (zone : TzText) × (read ≡ Some zone) × (days_by_rule period zone ≡ Ok days)
by_reading period None days h = absurd (cc)
by_reading period (Some zone) days h = (zone, refl, h)

-- the days of a zone text are the table of the rule that it spells
pub days_of_zone-rule : (period : Period) (text : List ℕ) (days : Days) → days_of_zone period text ≡ Ok days
    → (zone : TzText) × (read_whole text ≡ Some zone) × (days_by_rule period zone ≡ Ok days)
unfolding days_of_zone
days_of_zone-rule period text days h = by_reading period (read_whole text) days h

-- On each day of a table the instants follow one another,
pub day-rises : (days : Days) → IsTable days → (i : ℕ) → i < length days.eight
    → (get_or days.mid i 0 < get_or days.eight i 0) × (get_or days.eight i 0 < get_or days.ten i 0) × (get_or days.ten i 0 < get_or days.mid (i + 1) 0)
day-rises days table i within =
    let mid = table.mid in
    let ten = table.ten in
    table.rising.on i _ _ _ _ (slice_get-get_or days.mid i 0 (omega arith))
    (slice_get-get_or days.eight i 0 within)
    (slice_get-get_or days.ten i 0 (omega arith)) (slice_get-get_or days.mid (i + 1) 0 (omega arith))

mid-later : (days : Days) → IsTable days → (i n : ℕ) → i + n ≤ length days.eight
    → get_or days.mid i 0 ≤ get_or days.mid (i + n) 0
mid-later days table i zero within = let same : i + 0 ≡ i = omega arith in rw same (omega arith)
mid-later days table i (suc n) within =
    let next : i + suc n ≡ i + n + 1 = omega arith in
    let before = mid-later days table i n (omega arith) in
    let day = day-rises days table (i + n) (omega arith) in
    rw next (omega (arith, day.0, day.1, day.2))

-- no later midnight comes before an earlier one,
pub mids-in_order : (days : Days) → IsTable days → (i j : ℕ) → i ≤ j → j ≤ length days.eight
    → get_or days.mid i 0 ≤ get_or days.mid j 0
mids-in_order days table i j order within =
    let there : i + (j - i) ≡ j = omega arith in
    rw there at (mid-later days table i (j - i) (omega arith))

-- so a day has ended where a later one begins,
mid-reached : (days : Days) → IsTable days → (i j : ℕ) → i < j → j ≤ length days.eight
    → get_or days.mid (i + 1) 0 ≤ get_or days.mid j 0
mid-reached days table i j before within =
    mids-in_order days table (i + 1) j (omega arith) within

-- a later day begins later,
pub mid-rises : (days : Days) → IsTable days → (i j : ℕ) → i < j → j ≤ length days.eight
    → get_or days.mid i 0 < get_or days.mid j 0
mid-rises days table i j before within =
    let day = day-rises days table i (omega arith) in
    let last = mid-reached days table i j before within in
    omega (arith, day.0, day.1, day.2)

-- a later day has its 08:00 and its 22:00 later,
pub eight-later : (days : Days) → IsTable days → (i j : ℕ) → i ≤ j → j < length days.eight
    → get_or days.eight i 0 ≤ get_or days.eight j 0
eight-later days table i j order within =
    elim (cases_eq i j) [
      | inl same ↦ rw same (omega arith)
      | inr apart ↦
          let first = day-rises days table i (omega arith) in
          let between = mid-reached days table i j (omega arith) (omega arith) in
          omega (arith, first.1, first.2, (day-rises days table j within).0)
    ]

pub ten-later : (days : Days) → IsTable days → (i j : ℕ) → i ≤ j → j < length days.eight
    → get_or days.ten i 0 ≤ get_or days.ten j 0
ten-later days table i j order within =
    elim (cases_eq i j) [
      | inl same ↦ rw same (omega arith)
      | inr apart ↦
          let last = day-rises days table j within in
          let between = mid-reached days table i j (omega arith) (omega arith) in
          omega (arith, (day-rises days table i (omega arith)).2, last.0, last.1)
    ]

-- and a night ends after it begins.
pub night-lasts : (days : Days) → IsTable days → (i : ℕ) → i + 1 < length days.eight
    → get_or days.ten i 0 < get_or days.eight (i + 1) 0
night-lasts days table i within =
    let first = day-rises days table i (omega arith) in
    let last = day-rises days table (i + 1) within in
    omega (arith, first.2, last.0)

pub mids-increase : (days : Days) → IsTable days → IsStrictlyIncreasing days.mid
mids-increase days table = λ k within. let long = table.mid in mid-rises days table k (k + 1) (omega arith) (omega arith)
