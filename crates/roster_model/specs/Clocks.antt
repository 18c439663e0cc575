-- What the clocks of a base show, if the text of its zone is the rule. The text is a POSIX rule
-- (RFC 9636): `jiff` says what it spells, and on which day of a year each of its changes falls. An
-- hour that the clocks skip or show twice stands for one instant, as RFC 5545 (3.3.5) and `jiff`'s
-- compatible conversion have it.
--
-- Moments are seconds since 1970-01-01T00:00 as the clocks themselves count, offsets are seconds
-- ahead of UTC. A rule has standard time and, if it has summer time too, the moments of a year at
-- which the clocks are changed to it and back. These are judged year by year, on the clocks.
use Rattle.std.specs.Prelude.{ℕ, ◌+◌, ◌*◌, ◌/◌, ◌%◌, ℤ, pos, ◌+ℤ◌, ◌-ℤ◌, ◌*ℤ◌, int_lt, unsigned_abs, Bool, ◌==◌, ◌&&◌, not, if◌then◌else◌}
use Rattle.jiff_core.specs.Calendar.{days_in_year}
use Rattle.jiff_tz.specs.PosixRule.{first_day, rule_day, clamp_to, in_window, in_span, match_some}
use Rattle.jiff_tz.specs.PosixText.{TzText}
use Rattle.jiff_tz.specs.Year.{year_of_day}
use Rattle.jiff_tz.specs.declared.posix.Day.{Day}

-- the moments at which a year begins and ends
abbrev pub year_begins : ℤ → ℤ
year_begins year = first_day year *ℤ pos 86_400

abbrev pub year_ends : ℤ → ℤ
year_ends year = (first_day year +ℤ pos (days_in_year year)) *ℤ pos 86_400

-- The moment of a change in a year: so many seconds after a day's midnight, but never out of the
-- year. If the year lacks the day, it is the year's end.
unfoldable pub change_in : ℤ → Day × ℤ → ℤ
change_in year change = match_some (rule_day year change.0) (year_ends year) (λ day.
    clamp_to (year_begins year) (year_ends year) (day *ℤ pos 86_400 +ℤ change.1))

-- Summer time runs from the first moment of a season to the second; if the second comes first,
-- it runs across the new year. If it is ahead of standard time, the clocks skip a gap after its
-- start. There the offset is the one before the gap, which is standard time's. They show a fold
-- before its end twice. There the earlier one counts, which is in summer time.
abbrev pub offset_ahead : ℤ → ℤ → ℤ × ℤ → ℤ → ℤ
offset_ahead standard summer season at =
    if in_window season at && not (in_span season.0 (season.0 +ℤ (summer -ℤ standard)) at)
    then summer else standard

-- If it is behind standard time, as a winter time may be written, the clocks show a fold before
-- its start twice. There the earlier one counts, which is in standard time. They skip a gap after
-- its end. There the offset is the one before the gap, which is summer time's.
abbrev pub offset_behind : ℤ → ℤ → ℤ × ℤ → ℤ → ℤ
offset_behind standard summer season at =
    if in_window season at then summer
    else (if in_span (season.0 +ℤ (summer -ℤ standard)) season.0 at then standard
    else (if in_span season.1 (season.1 -ℤ (summer -ℤ standard)) at then summer else standard))

abbrev pub offset_by : ℤ → ℤ → ℤ × ℤ → ℤ → ℤ
offset_by standard summer season at =
    if int_lt summer standard then offset_behind standard summer season at
    else offset_ahead standard summer season at

-- the offset at a moment of a year: in a gap the offset before it, in a fold the earlier one
unfoldable pub offset_at : TzText → ℤ → ℤ → ℤ
offset_at zone year at = match_some zone.dst zone.std_seconds (λ summer.
    offset_by zone.std_seconds summer.seconds
    (change_in year summer.start, change_in year summer.finish) at)

-- the moment at which the clocks show this hour of a day
abbrev pub moment : ℕ → ℕ → ℤ
moment day hour = pos (day * 86_400 + hour * 3_600)

-- the instant for which the clocks' moment stands, in seconds since 1970-01-01T00:00Z
unfoldable pub second_at : TzText → ℕ → ℕ → ℤ
second_at zone day hour =
    moment day hour -ℤ offset_at zone (year_of_day (pos day)) (moment day hour)

-- whether it is a whole minute
abbrev pub is_minute_at : TzText → ℕ → ℕ → Bool
is_minute_at zone day hour = unsigned_abs (second_at zone day hour) % 60 == 0

-- and the minute. (No window begins before 1970-11-27, so no such second lies below 0.)
abbrev pub minute_at : TzText → ℕ → ℕ → ℕ
minute_at zone day hour = unsigned_abs (second_at zone day hour) / 60
