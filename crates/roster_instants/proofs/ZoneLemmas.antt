-- The steps in which a zone text is judged, and the day that holds an instant.
use Rattle.std.proofs.Common.{◌≡◌, ◌∙◌, sym, subst, ℕ, ◌+◌, ◌-◌, ◌<◌, ◌≤◌, true, false, List, length, get_or, Option, Some, None, Ok, Err, MatchOption, arith}
use Rattle.std.specs.List.Sorted.{IsPartitionPoint}
use Rattle.std.specs.Option.{SomeIff}
use Rattle.std.proofs.lemmas.Option.{slice_get-get_or, slice_get_within, get_or_from_slice_get}
use Rattle.jiff_tz.specs.PosixReader.{read_whole}
use Rattle.jiff_tz.specs.PosixText.{TzText}
use Rattle.roster_model.specs.Calendar.{Period, Days, IsDayOf, first_day, days_of_window, days_of_month}
use Rattle.roster_model.specs.Zone.{NotRead, NotMinutes, NotRising, days_of_zone, days_by_rule, has_minutes, rises, days_shown, instants_at}

-- a text that is no zone
pub not_read : (period : Period) (text : List ℕ) → read_whole text ≡ None
    → days_of_zone period text ≡ Err NotRead
unfolding days_of_zone
not_read period text none = rw none

-- and one that is
by_rule : (period : Period) (text : List ℕ) (zone : TzText) → read_whole text ≡ Some zone
    → days_of_zone period text ≡ days_by_rule period zone
unfolding days_of_zone
by_rule period text zone read = rw read

pub not_minutes : (period : Period) (text : List ℕ) (zone : TzText) → read_whole text ≡ Some zone
    → has_minutes period zone ≡ false → days_of_zone period text ≡ Err NotMinutes
unfolding days_by_rule
not_minutes period text zone read minutes = by_rule period text zone read ∙ rw minutes

pub not_rising : (period : Period) (text : List ℕ) (zone : TzText) → read_whole text ≡ Some zone
    → has_minutes period zone ≡ true → rises period zone ≡ false → days_of_zone period text ≡ Err NotRising
unfolding days_by_rule
not_rising period text zone read minutes rising = by_rule period text zone read ∙ rw (minutes, rising)

pub has_days : (period : Period) (text : List ℕ) (zone : TzText) → read_whole text ≡ Some zone
    → has_minutes period zone ≡ true → rises period zone ≡ true
    → days_of_zone period text ≡ Ok (days_shown period zone)
unfolding days_by_rule
has_days period text zone read minutes rising = by_rule period text zone read ∙ rw (minutes, rising)

-- the tables that make the window's days
pub table_made : (period : Period) (zone : TzText) (first n month_days : ℕ) (mid eight ten : List ℕ)
    → first ≡ first_day period → n ≡ days_of_window period → month_days ≡ days_of_month period
    → mid ≡ instants_at zone 0 first (n + 1) → eight ≡ instants_at zone 8 first n
    → ten ≡ instants_at zone 22 first n
    → record { month_days = month_days; mid = mid; eight = eight; ten = ten } ≡ days_shown period zone
table_made period zone first n month_days mid eight ten is_first is_n is_month is_mid is_eight is_ten =
    rw (is_mid, is_eight, is_ten, is_month, is_n, is_first)

-- ---- the day that holds an instant

-- so many of the instants have come by one
abbrev pub HaveCome : List ℕ → ℕ → ℕ → Type 0
HaveCome instants t n = IsPartitionPoint (λ at. at ≤ t) (λ at. t < at) instants n

-- if all midnights have, it comes after the window,
pub past_window : (days : Days) (t n : ℕ) → HaveCome days.mid t n → length days.mid ≤ n → (i : ℕ)
    → ¬ (IsDayOf days t i)
past_window days t n come all i day =
    let inside = slice_get_within days.mid (i + 1) day.ends day.next in
    let end = get_or_from_slice_get days.mid (i + 1) day.ends 0 day.next in
    let by = come.0 (i + 1) 0 (omega arith) (omega arith) in
    let before = day.before in
    absurd (omega (arith, end, by))

-- if none has, before it,
before_window : (days : Days) (t n : ℕ) → HaveCome days.mid t n → n ≡ 0 → (i : ℕ) → ¬ (IsDayOf days t i)
before_window days t n come none i day =
    let inside = slice_get_within days.mid i day.begins day.first in
    let begin = get_or_from_slice_get days.mid i day.begins 0 day.first in
    let after = come.1 i 0 (omega arith) inside in
    let from = day.from in
    absurd (omega (arith, begin, after))

-- and else the last that has begins its day
within_window : (days : Days) (t n : ℕ) → HaveCome days.mid t n → n < length days.mid → 1 ≤ n
    → IsDayOf days t (n - 1)
within_window days t n come inside some =
    let next : n - 1 + 1 ≡ n = omega arith in
    record {
      begins = get_or days.mid (n - 1) 0;
      ends = get_or days.mid n 0;
      first = slice_get-get_or days.mid (n - 1) 0 (omega arith);
      next = rw next (slice_get-get_or days.mid n 0 inside);
      from = come.0 (n - 1) 0 (omega arith) (omega arith);
      before = come.1 n 0 (omega arith) inside;
    }

pub day_begun : (days : Days) (t n : ℕ) (r : Option ℕ) → HaveCome days.mid t n → n < length days.mid
    → SomeIff r (1 ≤ n) (n - 1) → MatchOption r ((i : ℕ) → ¬ (IsDayOf days t i)) (λ i. IsDayOf days t i)
day_begun days t n None come inside none = before_window days t n come (omega (arith, none))
day_begun days t n (Some i) come inside some =
    let P : ℕ → Type 0 = λ k. IsDayOf days t k in
    subst P (sym some.1) (within_window days t n come inside some.0)
