-- What is proved of the days that a zone text stands for.
use Rattle.std.specs.Prelude.{◌≡◌, ℕ, ◌+◌, ◌*◌, ◌<◌, ◌≤◌, ℤ, pos, List, map, slice_get, Ok, Some, codes}
use Rattle.std.specs.List.{range_with_len}
use Rattle.jiff_core.specs.Date.{epoch_day}
use Rattle.jiff_core.specs.Time.{time_nanos}
use Rattle.jiff_core.specs.Timestamp.{nanos_of_seconds}
use Rattle.jiff_core.specs.declared.civil.datetime.DateTime.{DateTime}
use Rattle.jiff_tz.specs.Ambiguous.{compatible_offset, instant_of}
use Rattle.jiff_tz.specs.PosixReader.{read_whole}
use Rattle.jiff_tz.specs.PosixText.{TzText}
use Rattle.jiff_tz.specs.Zone.{ambiguous_at}
use Rattle.jiff_tz.specs.declared.timezone.TimeZone.{TimeZone}
use Rattle.jiff.specs.Placed.{IsPosixZone}
use Rattle.roster_model.specs.Calendar.{Period, Days, days_of_month, days_of_window, first_day}
use Rattle.roster_model.specs.Clocks.{second_at}
use Rattle.roster_model.specs.Zone.{days_of_zone}
use Rattle.roster_model.specs.declared.limits.TheConstants.{FIRST_MONTH_YEAR, LAST_MONTH_YEAR}

-- the months of the years that are read
pub record IsMonth (period : Period) : Type 0 where
  pub from : FIRST_MONTH_YEAR ≤ period.year
  pub to : period.year ≤ LAST_MONTH_YEAR
  pub low : 1 ≤ period.month
  pub high : period.month ≤ 12

-- the datetime is this hour of day i of a window
pub record IsHourOf (period : Period) (i hour : ℕ) (datetime : DateTime) : Type 0 where
  pub date : epoch_day datetime.date ≡ pos (first_day period + i)
  pub time : time_nanos datetime.time ≡ hour * 3_600_000_000_000

-- the instant of a datetime by `jiff`'s compatible conversion, in nanoseconds
abbrev pub instant_in : TimeZone → DateTime → ℤ
instant_in zone datetime = instant_of datetime (compatible_offset (ambiguous_at zone datetime))

-- Whatever zone a text stands for, the definition's instants of a window are `jiff`'s,
abbrev pub IsCompatible : Type 0
IsCompatible = (period : Period) (text : List ℕ) (zone : TimeZone) (rule : TzText)
    (datetime : DateTime) (i hour : ℕ)
    → IsMonth period → IsPosixZone text zone → read_whole text ≡ Some rule
    → i ≤ days_of_window period → hour < 24 → IsHourOf period i hour datetime
    → instant_in zone datetime ≡ nanos_of_seconds (second_at rule (first_day period + i) hour)

-- and so are those of the days that it stands for.
abbrev pub HasCompatibleDays : Type 0
HasCompatibleDays = (period : Period) (text : List ℕ) (zone : TimeZone) (days : Days)
    (datetime : DateTime) (i minute : ℕ)
    → IsMonth period → IsPosixZone text zone → days_of_zone period text ≡ Ok days
    → (IsHourOf period i 0 datetime → slice_get days.mid i ≡ Some minute
    → instant_in zone datetime ≡ pos (minute * 60_000_000_000))
    × (IsHourOf period i 8 datetime → slice_get days.eight i ≡ Some minute
    → instant_in zone datetime ≡ pos (minute * 60_000_000_000))
    × (IsHourOf period i 22 datetime → slice_get days.ten i ≡ Some minute
    → instant_in zone datetime ≡ pos (minute * 60_000_000_000))

-- the instants of one minute of the day on each of n days, at UTC
abbrev pub utc_instants : ℕ → ℕ → ℕ → List ℕ
utc_instants minute day n = map (λ d. d * 1440 + minute) (range_with_len day n)

-- the days of a base whose clocks show UTC
abbrev pub utc_days : Period → Days
utc_days period = record {
  month_days = days_of_month period;
  mid = utc_instants 0 (first_day period) (days_of_window period + 1);
  eight = utc_instants 480 (first_day period) (days_of_window period);
  ten = utc_instants 1320 (first_day period) (days_of_window period);
}

-- a zone without an offset has the days of UTC
abbrev pub IsPlainAtUtc : Type 0
IsPlainAtUtc = (period : Period) → days_of_zone period (codes "UTC0") ≡ Ok (utc_days period)
