-- The definition's offset is that of `jiff`'s compatible conversion.
use Rattle.std.proofs.Common.{◌≡◌, ◌∙◌, sym, ap, refl, subst, ℕ, ◌*◌, ◌≤◌, ℤ, pos, neg_ℤ, ◌+ℤ◌, ◌-ℤ◌, ◌*ℤ◌, ◌<ℤ◌, ◌≤ℤ◌, int_lt, Bool, true, false, not, ◌&&◌, if◌then◌else◌, inr, Option, Some, None, arith, List}
use Rattle.std.specs.Option.{option_map}
use Rattle.jiff_core.proofs.SignedLemmas.{signed_arith}
use Rattle.jiff_core.proofs.DateLemmas.{epoch_day-ordinal, civil}
use Rattle.jiff_core.proofs.CalendarLemmas.{day_of_year_bound, days_in_year_bounds}
use Rattle.jiff_core.proofs.DateTimeLemmas.{civil_nanos-parts}
use Rattle.jiff_core.specs.Date.{epoch_day}
use Rattle.jiff_core.specs.DateTime.{civil_nanos}
use Rattle.jiff_core.specs.Time.{time_nanos}
use Rattle.jiff_core.specs.Timestamp.{nanos_of_seconds}
use Rattle.jiff_core.specs.declared.offset.Offset.{Offset}
use Rattle.jiff_core.specs.declared.civil.datetime.DateTime.{DateTime}
use Rattle.jiff_tz.proofs.YearLemmas.{year_of_day-date}
use Rattle.jiff_tz.specs.Ambiguous.{compatible_offset, instant_of}
use Rattle.jiff_tz.specs.PosixReader.{read_whole}
use Rattle.jiff_tz.specs.PosixRule.{rule_nanos, rule_day, first_nanosecond, last_nanosecond, nanos_per_day, match_some, clamp_to, in_window, in_span, saturating_add, saturating_sub, shift_between, ambiguous_ahead, ambiguous_behind, ambiguous_by, ambiguous_at_by}
use Rattle.jiff_tz.specs.PosixRule as rule
use Rattle.jiff_tz.specs.PosixText.{day_time_view, dst_view, tz_view}
use Rattle.jiff_tz.specs.Year.{year_of_day}
use Rattle.jiff_tz.specs.Zone.{ambiguous_at}
use Rattle.jiff_tz.specs.declared.ambiguous.AmbiguousOffset.TheVariants.{Unambiguous, Gap, Fold}
use Rattle.jiff_tz.specs.declared.posix.DayTime.{DayTime}
use Rattle.jiff_tz.specs.declared.posix.Dst.{Dst}
use Rattle.jiff_tz.specs.declared.posix.TimeZone.{TimeZone as Rule}
use Rattle.jiff_tz.specs.declared.timezone.TimeZone.{TimeZone}
use Rattle.jiff_tz.specs.declared.timezone.TimeZone.TheVariants.{UTC, Unknown, Fixed, Posix, Tzif}
use Rattle.jiff.specs.Placed.{IsPosixZone}
use Rattle.roster_model.specs.Clocks.{year_begins, year_ends, change_in, offset_ahead, offset_behind, offset_by, offset_at, moment, second_at}
use Rattle.roster_instants.proofs.MarkLemmas.{nanos, IsNear, IsMark, IsNear-mark, clamp-mark, clamp_bounds, near-add, near-sub, same_window, same_span}
use Rattle.roster_instants.specs.Rule.{IsRule, rule_of}
use Rattle.roster_instants.specs.declared.clocks.TheConstants.{LAST_DAY}

-- ---- the moments of a rule

-- A change in both counts. It lies within its year.
pub record IsChange (year s r : ℤ) : Type 0 where
  pub mark : IsMark (year_ends year) s r
  pub from : year_begins year ≤ℤ s
  pub to : s ≤ℤ year_ends year

year_rises : (year : ℤ) → year_begins year <ℤ year_ends year
year_rises year = let days = (days_in_year_bounds year).1 in omega (arith, signed_arith)

begins_nanos : (year : ℤ) → nanos (year_begins year) ≡ first_nanosecond year
begins_nanos year = omega (arith, signed_arith)

last_nanos : (year : ℤ) → last_nanosecond year ≡ nanos (year_ends year) -ℤ pos 1
last_nanos year = omega (arith, signed_arith)

day_nanos : (day time : ℤ)
    → day *ℤ nanos_per_day +ℤ nanos_of_seconds (time -ℤ pos 0) ≡ nanos (day *ℤ pos 86_400 +ℤ time)
day_nanos day time = omega (arith, signed_arith)

change_by : (year time : ℤ) (day : Option ℤ) → IsChange year
    (match_some day (year_ends year) (λ d. clamp_to (year_begins year) (year_ends year) (d *ℤ pos 86_400 +ℤ time)))
    (match_some day (last_nanosecond year) (λ d. clamp_to (first_nanosecond year) (last_nanosecond year) (d *ℤ nanos_per_day +ℤ nanos_of_seconds (time -ℤ pos 0))))
change_by year time None =
    let rises = year_rises year in
    record { mark = inr (refl, last_nanos year); from = omega (arith, signed_arith, rises); to = omega (arith, signed_arith) }
change_by year time (Some day) =
    let rises = year_rises year in
    let bounds =
    clamp_bounds (year_begins year) (year_ends year) (day *ℤ pos 86_400 +ℤ time)
    (omega (arith, signed_arith, rises)) in
    let mark = clamp-mark (year_begins year) (year_ends year) (day *ℤ pos 86_400 +ℤ time)
    (day *ℤ nanos_per_day +ℤ nanos_of_seconds (time -ℤ pos 0)) (last_nanosecond year) rises
    (day_nanos day time) (last_nanos year) in
    record { mark = rw (begins_nanos year) at mark; from = bounds.0; to = bounds.1 }

pub change : (year : ℤ) (d : DayTime)
    → IsChange year (change_in year (day_time_view d)) (rule_nanos year d (pos 0))
unfolding change_in rule_nanos
change year d = change_by year d.time (rule_day year d.date)

-- ---- the offset at a moment

-- a year whose ends lie well within the civil datetimes
pub record IsInner (year : ℤ) : Type 0 where
  pub from : neg_ℤ (pos 86_400_000_000) ≤ℤ year_begins year
  pub to : year_ends year ≤ℤ pos 253_400_000_000

shift_nanos : (standard summer : Offset)
    → shift_between standard summer ≡ nanos (summer.seconds -ℤ standard.seconds)
shift_nanos standard summer = omega (arith, signed_arith)

-- a change that is moved by the difference of two offsets
later : (year s r : ℤ) (standard summer : Offset) → IsInner year → IsChange year s r
    → IsNear (s +ℤ (summer.seconds -ℤ standard.seconds)) (saturating_add r (shift_between standard summer))
later year s r standard summer inner is =
    let near = IsNear-mark (year_ends year) s r is.mark in
    near-add s r (summer.seconds -ℤ standard.seconds) (shift_between standard summer) near
    (shift_nanos standard summer)
    (omega (arith, signed_arith, near.low, is.from, inner.from, standard.in_range, summer.in_range))
    (omega (arith, signed_arith, near.high, is.to, inner.to, standard.in_range, summer.in_range))

earlier : (year s r : ℤ) (standard summer : Offset) → IsInner year → IsChange year s r
    → IsNear (s -ℤ (summer.seconds -ℤ standard.seconds)) (saturating_sub r (shift_between standard summer))
earlier year s r standard summer inner is =
    let near = IsNear-mark (year_ends year) s r is.mark in
    near-sub s r (summer.seconds -ℤ standard.seconds) (shift_between standard summer) near
    (shift_nanos standard summer)
    (omega (arith, signed_arith, near.low, is.from, inner.from, standard.in_range, summer.in_range))
    (omega (arith, signed_arith, near.high, is.to, inner.to, standard.in_range, summer.in_range))

-- what the compatible way makes of the tests
ahead_by : (window gap fold : Bool) (standard summer : Offset)
    → (compatible_offset (if not window then Unambiguous standard
    else (if gap then Gap standard summer else (if fold then Fold summer standard else Unambiguous summer)))).seconds
    ≡ (if window && not gap then summer.seconds else standard.seconds)
ahead_by true true fold standard summer = refl
ahead_by true false true standard summer = refl
ahead_by true false false standard summer = refl
ahead_by false gap fold standard summer = refl

behind_by : (window fold gap : Bool) (standard summer : Offset)
    → (compatible_offset (if window then Unambiguous summer
    else (if fold then Fold standard summer else (if gap then Gap summer standard else Unambiguous standard)))).seconds
    ≡ (if window then summer.seconds else (if fold then standard.seconds else (if gap then summer.seconds else standard.seconds)))
behind_by true fold gap standard summer = refl
behind_by false true gap standard summer = refl
behind_by false false true standard summer = refl
behind_by false false false standard summer = refl

pub ahead : (year s t q r at : ℤ) (standard summer : Offset) → IsInner year → IsChange year s q
    → IsChange year t r
    → (compatible_offset (ambiguous_ahead standard summer (q, r) (nanos at))).seconds ≡ offset_ahead standard.seconds summer.seconds (s, t) at
ahead year s t q r at standard summer inner start finish =
    let near = IsNear-mark (year_ends year) s q start.mark in
    ahead_by (in_window (q, r) (nanos at))
    (in_span q (saturating_add q (shift_between standard summer)) (nanos at))
    (in_span (saturating_sub r (shift_between standard summer)) r (nanos at)) standard summer
    ∙ ap (λ b. if b && not (in_span q (saturating_add q (shift_between standard summer)) (nanos at)) then summer.seconds else standard.seconds)
    (same_window (year_ends year) s t q r at start.mark finish.mark)
    ∙ ap (λ b. if in_window (s, t) at && not b then summer.seconds else standard.seconds)
    (same_span s (s +ℤ (summer.seconds -ℤ standard.seconds)) q (saturating_add q (shift_between standard summer)) at near (later year s q standard summer inner start))

pub behind : (year s t q r at : ℤ) (standard summer : Offset) → IsInner year → IsChange year s q
    → IsChange year t r
    → (compatible_offset (ambiguous_behind standard summer (q, r) (nanos at))).seconds ≡ offset_behind standard.seconds summer.seconds (s, t) at
behind year s t q r at standard summer inner start finish =
    let shift = shift_between standard summer in
    let delta = summer.seconds -ℤ standard.seconds in
    let first = IsNear-mark (year_ends year) s q start.mark in
    let last = IsNear-mark (year_ends year) t r finish.mark in
    let a : Bool = in_window (s, t) at in
    let f : Bool = in_span (s +ℤ delta) s at in
    behind_by (in_window (q, r) (nanos at)) (in_span (saturating_add q shift) q (nanos at))
    (in_span r (saturating_sub r shift) (nanos at)) standard summer
    ∙ ap (λ b. if b then summer.seconds else (if in_span (saturating_add q shift) q (nanos at) then standard.seconds else (if in_span r (saturating_sub r shift) (nanos at) then summer.seconds else standard.seconds)))
    (same_window (year_ends year) s t q r at start.mark finish.mark)
    ∙ ap (λ b. if a then summer.seconds else (if b then standard.seconds else (if in_span r (saturating_sub r shift) (nanos at) then summer.seconds else standard.seconds)))
    (same_span (s +ℤ delta) s (saturating_add q shift) q at (later year s q standard summer inner start) first)
    ∙ ap (λ b. if a then summer.seconds else (if f then standard.seconds else (if b then summer.seconds else standard.seconds)))
    (same_span t (t -ℤ delta) r (saturating_sub r shift) at last (earlier year t r standard summer inner finish))

-- if the two offsets are one, it doesn't matter which holds
one_offset : (b : Bool) (standard summer : ℤ) → summer ≡ standard
    → standard ≡ (if b then summer else standard)
one_offset true standard summer same = sym same
one_offset false standard summer same = refl

by_sides : (year s t q r at : ℤ) (standard summer : Offset) (less more : Bool)
    → int_lt summer.seconds standard.seconds ≡ less → int_lt standard.seconds summer.seconds ≡ more
    → IsInner year → IsChange year s q → IsChange year t r
    → (compatible_offset (if less then ambiguous_behind standard summer (q, r) (nanos at) else (if more then ambiguous_ahead standard summer (q, r) (nanos at) else Unambiguous standard))).seconds
    ≡ (if less then offset_behind standard.seconds summer.seconds (s, t) at else offset_ahead standard.seconds summer.seconds (s, t) at)
by_sides year s t q r at standard summer true more below above inner start finish =
    behind year s t q r at standard summer inner start finish
by_sides year s t q r at standard summer false true below above inner start finish =
    ahead year s t q r at standard summer inner start finish
by_sides year s t q r at standard summer false false below above inner start finish =
    one_offset (in_window (s, t) at && not (in_span s (s +ℤ (summer.seconds -ℤ standard.seconds)) at)) standard.seconds summer.seconds (omega (arith, signed_arith))

by_summer : (year at : ℤ) (standard : Offset) (summer : Option Dst) (dt : DateTime) → dt.date.year ≡ year
    → civil_nanos dt ≡ nanos at → IsInner year
    → (compatible_offset (ambiguous_at_by standard summer dt)).seconds
    ≡ match_some (option_map dst_view summer) standard.seconds (λ d. offset_by standard.seconds d.seconds (change_in year d.start, change_in year d.finish) at)
by_summer year at standard None dt is_year is_at inner = refl
by_summer year at standard (Some d) dt is_year is_at inner =
    ap (λ y. (compatible_offset (ambiguous_by standard d.offset (rule_nanos y d.rule.start (pos 0), rule_nanos y d.rule.end (pos 0)) (civil_nanos dt))).seconds) is_year
    ∙ ap (λ n. (compatible_offset (ambiguous_by standard d.offset (rule_nanos year d.rule.start (pos 0), rule_nanos year d.rule.end (pos 0)) n)).seconds) is_at
    ∙ by_sides year (change_in year (day_time_view d.rule.start)) (change_in year (day_time_view d.rule.end)) (rule_nanos year d.rule.start (pos 0)) (rule_nanos year d.rule.end (pos 0)) at standard d.offset
    (int_lt d.offset.seconds standard.seconds) (int_lt standard.seconds d.offset.seconds) refl refl inner
    (change year d.rule.start) (change year d.rule.end)

-- whole seconds of an inner year have the definition's offset
pub offset_is : (zone : Rule) (dt : DateTime) (year at : ℤ) → dt.date.year ≡ year → civil_nanos dt ≡ nanos at
    → IsInner year
    → (compatible_offset (rule.ambiguous_at zone dt)).seconds ≡ offset_at (tz_view zone) year at
unfolding offset_at
offset_is zone dt year at is_year is_at inner =
    by_summer year at zone.std_offset zone.dst dt is_year is_at inner

-- ---- the instant of an hour of a day

-- the year of such a day is an inner one
pub inner : (dt : DateTime) (day : ℕ) → epoch_day dt.date ≡ pos day → day ≤ LAST_DAY → IsInner dt.date.year
inner dt day is to =
    let place = epoch_day-ordinal dt.date in
    let bound = day_of_year_bound dt.date.year dt.date.month dt.date.day (civil dt.date) in
    let days = days_in_year_bounds dt.date.year in
    record { from = omega (arith, signed_arith, dt.date.day_in); to = omega (arith, signed_arith, dt.date.day_in) }

pub moment_nanos : (dt : DateTime) (day hour : ℕ) → epoch_day dt.date ≡ pos day
    → time_nanos dt.time ≡ hour * 3_600_000_000_000 → civil_nanos dt ≡ nanos (moment day hour)
moment_nanos dt day hour is time =
    civil_nanos-parts dt ∙ rw (is, time) (omega (arith, signed_arith))

year_is : (dt : DateTime) (day : ℕ) → epoch_day dt.date ≡ pos day → dt.date.year ≡ year_of_day (pos day)
year_is dt day is = sym (year_of_day-date dt.date) ∙ ap year_of_day is

less : (a b : ℤ) → nanos a -ℤ nanos b ≡ nanos (a -ℤ b)
less a b = omega (arith, signed_arith)

pub instant_is : (zone : Rule) (dt : DateTime) (day hour : ℕ) → epoch_day dt.date ≡ pos day
    → time_nanos dt.time ≡ hour * 3_600_000_000_000 → day ≤ LAST_DAY
    → instant_of dt (compatible_offset (rule.ambiguous_at zone dt)) ≡ nanos (second_at (tz_view zone) day hour)
unfolding second_at
instant_is zone dt day hour is time to =
    let year = year_is dt day is in
    let at = moment_nanos dt day hour is time in
    let P : ℤ → Type 0 = λ y. IsInner y in
    let offset =
    offset_is zone dt (year_of_day (pos day)) (moment day hour) year at
    (subst P year (inner dt day is to)) in
    ap (λ n. n -ℤ nanos_of_seconds (compatible_offset (rule.ambiguous_at zone dt)).seconds) at
    ∙ ap (λ s. nanos (moment day hour) -ℤ nanos_of_seconds s) offset
    ∙ less (moment day hour) (offset_at (tz_view zone) (year_of_day (pos day)) (moment day hour))

-- a zone that follows a rule, and one that a text stands for
pub instant_of_rule : (zone : TimeZone) (dt : DateTime) (day hour : ℕ) → IsRule zone
    → epoch_day dt.date ≡ pos day → time_nanos dt.time ≡ hour * 3_600_000_000_000 → day ≤ LAST_DAY
    → instant_of dt (compatible_offset (ambiguous_at zone dt)) ≡ nanos (second_at (rule_of zone) day hour)
unfolding ambiguous_at
instant_of_rule (Posix zone) dt day hour has is time to = instant_is zone dt day hour is time to
instant_of_rule UTC dt day hour has is time to = absurd has
instant_of_rule Unknown dt day hour has is time to = absurd has
instant_of_rule (Fixed offset) dt day hour has is time to = absurd has
instant_of_rule (Tzif table) dt day hour has is time to = absurd has

pub rule_of_text : (text : List ℕ) (zone : TimeZone) → IsPosixZone text zone
    → IsRule zone × (read_whole text ≡ Some (rule_of zone))
rule_of_text text (Posix rule) is = (tt, is)
rule_of_text text UTC is = absurd is
rule_of_text text Unknown is = absurd is
rule_of_text text (Fixed offset) is = absurd is
rule_of_text text (Tzif table) is = absurd is
