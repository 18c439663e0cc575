-- The definition's days are those of `jiff`'s compatible conversion.
use Rattle.std.proofs.Common.{◌≡◌, ◌∙◌, ap, subst, ℕ, ◌+◌, ◌*◌, ◌/◌, ◌%◌, ◌<◌, ◌≤◌, ◌==◌, ◌&&◌, ℤ, pos, negsuc, ◌≤ℤ◌, unsigned_abs, true, List, Some, arith}
use Rattle.std.specs.List.{slice_get}
use Rattle.std.proofs.lemmas.Bool.{and_parts}
use Rattle.std.proofs.lemmas.Bool.Decides.{nat_tests}
use Rattle.jiff_core.proofs.CalendarLemmas.{days_in_month_bounds}
use Rattle.jiff_core.proofs.SignedLemmas.{signed_arith}
use Rattle.jiff_core.specs.declared.civil.datetime.DateTime.{DateTime}
use Rattle.jiff_tz.specs.Ambiguous.{compatible_offset}
use Rattle.jiff_tz.specs.PosixReader.{read_whole}
use Rattle.jiff_tz.specs.PosixText.{TzText}
use Rattle.jiff_tz.specs.Zone.{ambiguous_at}
use Rattle.jiff_tz.specs.declared.timezone.TimeZone.{TimeZone}
use Rattle.jiff.specs.Placed.{IsPosixZone}
use Rattle.roster_model.proofs.WindowLemmas.{all_of_range, instant_is, days_of_zone-rule, days_by_rule-table}
use Rattle.roster_model.specs.Calendar.{Period, Days, days_of_window, first_day}
use Rattle.roster_model.specs.Clocks.{second_at, is_minute_at, minute_at}
use Rattle.roster_model.specs.Zone.{are_minutes}
use Rattle.roster_instants.proofs.ClockLemmas.{instant_of_rule, rule_of_text}
use Rattle.roster_instants.proofs.DayLemmas.{day_from_earliest, day_to_latest}
use Rattle.roster_instants.proofs.MarkLemmas.{nanos}
use Rattle.roster_instants.proofs.SecondLemmas.{IsHour, instant_bounds}
use Rattle.roster_instants.specs.Rule.{rule_of}
use Rattle.roster_instants.specs.Laws.{IsMonth, IsHourOf, IsCompatible, HasCompatibleDays, instant_in}

-- an hour of a window, on a day that a window may hold
hour_of : (period : Period) (i hour : ℕ) (dt : DateTime) → IsMonth period → i ≤ days_of_window period
    → hour < 24 → IsHourOf period i hour dt → IsHour dt (first_day period + i) hour
hour_of period i hour dt month within below is =
    let low = day_from_earliest period.year period.month 1 month.from (omega arith) in
    let high = day_to_latest period.year period.month month.from month.to month.low month.high in
    let days = (days_in_month_bounds (pos period.year) period.month).0 in
    record { date = is.date; time = is.time; from = omega arith; to = omega arith; within = below }

pub compatible : IsCompatible
compatible period text zone rule dt i hour month is read within below shows =
    let of_text = rule_of_text text zone is in
    let read_twice = of_text.1 in
    let same : rule_of zone ≡ rule = cc in
    let hours = hour_of period i hour dt month within below shows in
    instant_of_rule zone dt (first_day period + i) hour of_text.0 hours.date hours.time hours.to
    ∙ ap (λ z. nanos (second_at z (first_day period + i) hour)) same

-- a whole minute of a second that isn't negative
whole_minute : (s : ℤ) (minute : ℕ) → pos 0 ≤ℤ nanos s → (unsigned_abs s % 60 == 0) ≡ true
    → minute ≡ unsigned_abs s / 60 → nanos s ≡ pos (minute * 60_000_000_000)
whole_minute (pos k) minute low whole is =
    let none : k % 60 ≡ 0 = grind (arith, nat_tests) in
    omega (arith, signed_arith)
whole_minute (negsuc k) minute low whole is = absurd (omega (arith, signed_arith))

-- one hour of the table
at_hour : (period : Period) (text : List ℕ) (zone : TimeZone) (rule : TzText) (dt : DateTime)
    (i hour n minute : ℕ)
    → IsMonth period → IsPosixZone text zone → read_whole text ≡ Some rule → n ≤ days_of_window period + 1
    → hour < 24
    → are_minutes rule hour (first_day period) n ≡ true
    → (i < n) × (minute ≡ minute_at rule (first_day period + i) hour) → IsHourOf period i hour dt
    → instant_in zone dt ≡ pos (minute * 60_000_000_000)
at_hour period text zone rule dt i hour n minute month is read few below whole place shows =
    let within = place.0 in
    let law = compatible period text zone rule dt i hour month is read (omega arith) below shows in
    let bounds =
    instant_bounds dt (compatible_offset (ambiguous_at zone dt)) (first_day period + i) hour
    (hour_of period i hour dt month (omega arith) below shows) in
    let P : ℤ → Type 0 = λ x. pos 0 ≤ℤ x in
    law ∙ whole_minute (second_at rule (first_day period + i) hour) minute (subst P law bounds.0)
    (all_of_range (λ d. is_minute_at rule d hour) (first_day period) n i whole place.0) place.1

pub compatible_days : HasCompatibleDays
compatible_days period text zone days dt i minute month is has =
    let found = days_of_zone-rule period text days has in
    let rule = found.0 in
    let table = days_by_rule-table period rule days found.2 in
    let n = days_of_window period in
    let first = first_day period in
    let both =
    and_parts (are_minutes rule 0 first (n + 1) && are_minutes rule 8 first n)
    (are_minutes rule 22 first n) table.0 in
    let early = and_parts (are_minutes rule 0 first (n + 1)) (are_minutes rule 8 first n) both.0 in
    let back = table.2 in (
      λ shows at. at_hour period text zone rule dt i 0 (n + 1) minute month is found.1 (omega arith) (omega arith) early.0 (instant_is rule 0 first (n + 1) i minute (ap (λ (d : Days). slice_get d.mid i) back ∙ at)) shows,
      λ shows at. at_hour period text zone rule dt i 8 n minute month is found.1 (omega arith) (omega arith) early.1 (instant_is rule 8 first n i minute (ap (λ (d : Days). slice_get d.eight i) back ∙ at)) shows,
      λ shows at. at_hour period text zone rule dt i 22 n minute month is found.1 (omega arith) (omega arith) both.1 (instant_is rule 22 first n i minute (ap (λ (d : Days). slice_get d.ten i) back ∙ at)) shows,
    )
