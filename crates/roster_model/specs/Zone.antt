-- The local days that a base's zone text stands for. Zones enter the definitions here and nowhere
-- else.
use Rattle.std.specs.Prelude.{ℕ, ◌+◌, Bool, ◌&&◌, not, nat_lt, if◌then◌else◌, List, map, Result, Ok, Err}
use Rattle.std.specs.List.{list_all, range_with_len}
use Rattle.jiff_tz.specs.PosixReader.{read_whole}
use Rattle.jiff_tz.specs.PosixRule.{match_some}
use Rattle.jiff_tz.specs.PosixText.{TzText}
use Rattle.roster_model.specs.Calendar.{Period, Days, days_of_month, days_of_window, first_day}
use Rattle.roster_model.specs.Clocks.{is_minute_at, minute_at}

-- why a zone text gives no days, in the order in which it is judged
pub data ZoneRefusal : Type 0 where
  -- it is no zone
  NotRead : ZoneRefusal
  -- a day of the window begins, or has its 08:00 or 22:00, or the window ends, at an instant that is no
  -- whole minute
  NotMinutes : ZoneRefusal
  -- the clocks are shifted so far that these instants don't follow one another
  NotRising : ZoneRefusal

-- whether an hour of each of n days is a whole minute
abbrev pub are_minutes : TzText → ℕ → ℕ → ℕ → Bool
are_minutes zone hour day n = list_all (λ d. is_minute_at zone d hour) (range_with_len day n)

-- whether 00:00, 08:00, 22:00 of the day and the next day's 00:00 follow one another
abbrev pub rises_on : TzText → ℕ → Bool
rises_on zone day =
    nat_lt (minute_at zone day 0) (minute_at zone day 8)
    && nat_lt (minute_at zone day 8) (minute_at zone day 22)
    && nat_lt (minute_at zone day 22) (minute_at zone (day + 1) 0)

-- the instants of an hour on each of n days
abbrev pub instants_at : TzText → ℕ → ℕ → ℕ → List ℕ
instants_at zone hour day n = map (λ d. minute_at zone d hour) (range_with_len day n)

-- `mid`, `eight` and `ten` of the window's days. The last `mid` is the end of the window.
abbrev pub days_shown : Period → TzText → Days
days_shown period zone = record {
  month_days = days_of_month period;
  mid = instants_at zone 0 (first_day period) (days_of_window period + 1);
  eight = instants_at zone 8 (first_day period) (days_of_window period);
  ten = instants_at zone 22 (first_day period) (days_of_window period);
}

-- whether all of these are whole minutes
abbrev pub has_minutes : Period → TzText → Bool
has_minutes period zone =
    are_minutes zone 0 (first_day period) (days_of_window period + 1)
    && are_minutes zone 8 (first_day period) (days_of_window period)
    && are_minutes zone 22 (first_day period) (days_of_window period)

-- whether they rise on each day
abbrev pub rises : Period → TzText → Bool
rises period zone =
    list_all (λ d. rises_on zone d) (range_with_len (first_day period) (days_of_window period))

-- the days of the window at a base whose clocks follow this rule
unfoldable pub days_by_rule : Period → TzText → Result Days ZoneRefusal
days_by_rule period zone =
    if not (has_minutes period zone) then Err NotMinutes
    else (if not (rises period zone) then Err NotRising else Ok (days_shown period zone))

-- and at a base with this zone text
unfoldable pub days_of_zone : Period → List ℕ → Result Days ZoneRefusal
days_of_zone period text = match_some (read_whole text) (Err NotRead) (days_by_rule period)
