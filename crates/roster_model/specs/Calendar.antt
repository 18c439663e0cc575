-- Instants, periods, and the days round a month. An instant is a number of minutes since
-- 1970-01-01T00:00Z. The calendar is the Gregorian one, as `jiff` has it.
use Rattle.std.specs.Prelude.{ℕ, ◌+◌, ◌-◌, ◌*◌, ◌≡◌, ◌<◌, ◌≤◌, Bool, ◌&&◌, if◌then◌else◌, List, length, slice_get, slice_index, Option, Some, None, pos, unsigned_abs, min, max, nat_le, codes}
use Rattle.std.specs.Int.{is_in_range}
use Rattle.jiff_core.specs.Calendar.{days_in_month, days_from_civil}
use Rattle.roster_model.specs.declared.limits.TheConstants.{FIRST_YEAR, LAST_YEAR, FIRST_MONTH_YEAR, LAST_MONTH_YEAR, DAYS_BEFORE, DAYS_AFTER, MOST_MONTH_MINUTES}
use Rattle.roster_model.specs.Form.{has_shape, number_at}

-- days since 1 January 1970, for a date not before it
abbrev pub day_number : ℕ → ℕ → ℕ → ℕ
day_number year month day = unsigned_abs (days_from_civil (pos year) month day)

-- a day of the calendar
abbrev pub is_real_date : ℕ → ℕ → ℕ → Bool
is_real_date year month day =
    is_in_range 1 12 month && is_in_range 1 (days_in_month (pos year) month) day

-- `YYYY-MM-DDTHH:MMZ`: a real date of the years 1970 to 9998, from 00:00 to 23:59
unfoldable pub is_instant : List ℕ → Bool
is_instant text =
    has_shape (codes "0000-00-00T00:00Z") text && is_in_range FIRST_YEAR LAST_YEAR (number_at text 0 4)
    && is_real_date (number_at text 0 4) (number_at text 5 7) (number_at text 8 10)
    && nat_le (number_at text 11 13) 23
    && nat_le (number_at text 14 16) 59

-- the instant that the text spells, if it does
unfoldable pub instant_of : List ℕ → Option ℕ
instant_of text =
    if is_instant text then Some
    (day_number (number_at text 0 4) (number_at text 5 7) (number_at text 8 10) * 1440
    + number_at text 11 13 * 60
    + number_at text 14 16)
    else None

-- a month of a year
pub record Period : Type 0 where
  pub year : ℕ
  pub month : ℕ

-- `YYYY-MM`: a month of the years 1971 to 9997
unfoldable pub period_of : List ℕ → Option Period
period_of text =
    if has_shape (codes "0000-00") text && is_in_range FIRST_MONTH_YEAR LAST_MONTH_YEAR (number_at text 0 4)
    && is_in_range 1 12 (number_at text 5 7)
    then Some (record { year = number_at text 0 4; month = number_at text 5 7 }) else None

-- The window of a book reaches from `DAYS_BEFORE` days before the month's first day to `DAYS_AFTER`
-- days after its last.
abbrev pub days_of_month : Period → ℕ
days_of_month period = days_in_month (pos period.year) period.month

-- the days of the window, N
abbrev pub days_of_window : Period → ℕ
days_of_window period = DAYS_BEFORE + days_of_month period + DAYS_AFTER

-- the day number of the window's first day, which is day 0 of the window
abbrev pub first_day : Period → ℕ
first_day period = day_number period.year period.month 1 - DAYS_BEFORE

-- The days of a window as a base's clocks show them. Day i reaches from `mid` at i to `mid` at
-- i + 1, so `mid` has one instant more than the window has days. `eight` and `ten` are the instants
-- of 08:00 and 22:00, between which no night lies. (Local day: ORO.FTL.105.)
pub record Days : Type 0 where
  pub month_days : ℕ
  pub mid : List ℕ
  pub eight : List ℕ
  pub ten : List ℕ

-- the instants at which the month begins and ends
abbrev pub month_start : Days → ℕ
month_start days = slice_index days.mid DAYS_BEFORE

abbrev pub month_end : Days → ℕ
month_end days = slice_index days.mid (DAYS_BEFORE + days.month_days)

-- On each day 00:00, 08:00, 22:00 and the next day's 00:00 follow one another.
pub record IsRising (days : Days) : Type 0 where
  pub on : (i mid eight ten next : ℕ) → slice_get days.mid i ≡ Some mid
      → slice_get days.eight i ≡ Some eight → slice_get days.ten i ≡ Some ten
      → slice_get days.mid (i + 1) ≡ Some next
      → (mid < eight) × (eight < ten) × (ten < next)

-- The tables are those of a window round a month of 28 to 31 days, and rise. The month is no longer
-- than a zone text can make one.
pub record IsTable (days : Days) : Type 0 where
  pub least : 28 ≤ days.month_days
  pub most : days.month_days ≤ 31
  pub eight : length days.eight ≡ DAYS_BEFORE + days.month_days + DAYS_AFTER
  pub mid : length days.mid ≡ length days.eight + 1
  pub ten : length days.ten ≡ length days.eight
  pub rising : IsRising days
  pub short : month_end days ≤ month_start days + MOST_MONTH_MINUTES

-- Day i holds the instant.
pub record IsDayOf (days : Days) (instant i : ℕ) : Type 0 where
  pub begins : ℕ
  pub ends : ℕ
  pub first : slice_get days.mid i ≡ Some begins
  pub next : slice_get days.mid (i + 1) ≡ Some ends
  pub from : begins ≤ instant
  pub before : instant < ends

-- the minutes that the interval from a to b shares with the one from c to d
abbrev pub common : ℕ → ℕ → ℕ → ℕ → ℕ
common a b c d = min b d - max a c
