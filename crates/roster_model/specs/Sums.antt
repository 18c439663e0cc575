-- Minutes by local day, in runs of days, and in the month. What lies across midnight is divided by the
-- minute. (ORO.FTL.210; the division is this project's profile.)
use Rattle.std.specs.Prelude.{ℕ, ◌+◌, ◌-◌, if◌then◌else◌, List, [], ◌∷◌, length, map, max, slice_index}
use Rattle.std.specs.List.{sum_by, range_with_len, fold}
use Rattle.roster_model.specs.declared.limits.TheConstants.{DAYS_BEFORE}
use Rattle.roster_model.specs.Calendar.{Days, common}
use Rattle.roster_model.specs.records.Duty.{Duty, Sector}

-- A measure says how many minutes one duty has between two instants. This is the one of duty.
abbrev pub duty_between : Duty → ℕ → ℕ → ℕ
duty_between duty from to = common duty.report duty.release from to

-- the flight of a sector: its own time if the person operates it, and none if it positions them
-- (Flight time, operating crew member, positioning: ORO.FTL.105.)
abbrev pub flown_between : Sector → ℕ → ℕ → ℕ
flown_between sector from to = if sector.operates then common sector.off sector.on from to else 0

-- the measure of flight: that of the duty's sectors
abbrev pub flight_between : Duty → ℕ → ℕ → ℕ
flight_between duty from to = sum_by (λ sector. flown_between sector from to) duty.sectors

-- the minutes of a list of duties on day i, by a measure
abbrev pub on_day : (Duty → ℕ → ℕ → ℕ) → Days → List Duty → ℕ → ℕ
on_day measure days list i =
    sum_by (λ duty. measure duty (slice_index days.mid i) (slice_index days.mid (i + 1))) list

-- the minutes of the n days of which `last` is the last, where each day has some
abbrev pub in_run : (ℕ → ℕ) → ℕ → ℕ → ℕ
in_run minutes n last = sum_by minutes (range_with_len (last + 1 - n) n)

-- the last days of the runs that are judged: from the month's first day to the window's last
abbrev pub judged_days : Days → List ℕ
judged_days days = range_with_len DAYS_BEFORE (length days.eight - DAYS_BEFORE)

-- the most minutes of a judged run of n days
abbrev pub greatest_run : (ℕ → ℕ) → Days → ℕ → ℕ
greatest_run minutes days n = fold max 0 (map (in_run minutes n) (judged_days days))

-- the duty of a list on day i
abbrev pub duty_on : Days → List Duty → ℕ → ℕ
duty_on days list i = on_day duty_between days list i

-- the greatest duty of a judged run of n days
abbrev pub greatest_duty : Days → List Duty → ℕ → ℕ
greatest_duty days list n = greatest_run (duty_on days list) days n

-- the flight of a list on day i
abbrev pub flight_on : Days → List Duty → ℕ → ℕ
flight_on days list i = on_day flight_between days list i

-- the greatest flight of a judged run of n days
abbrev pub greatest_flight : Days → List Duty → ℕ → ℕ
greatest_flight days list n = greatest_run (flight_on days list) days n

-- the minutes of the days of the month, where each day has some
abbrev pub in_month : (ℕ → ℕ) → Days → ℕ
in_month minutes days = sum_by minutes (range_with_len DAYS_BEFORE days.month_days)

-- the flight of a list in the month
abbrev pub month_flight : Days → List Duty → ℕ
month_flight days list = in_month (flight_on days list) days

-- the flight of one duty in the month
abbrev pub duty_flight : Days → Duty → ℕ
duty_flight days duty = month_flight days (duty ∷ [])
