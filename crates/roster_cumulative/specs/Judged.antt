-- All that the limits judge of a duty list, as sums over its duties.
use Rattle.std.specs.Prelude.{ℕ, ◌-◌, ◌%◌, ◌≤◌, min, List, ◌++◌, length, map, replicate, slice_index, All}
use Rattle.roster_model.specs.declared.profile.TheConstants.{SHORT_RUN, MIDDLE_RUN, LONG_RUN, MOST_DUTY_IN_7_DAYS, MOST_DUTY_IN_14_DAYS, MOST_DUTY_IN_28_DAYS, MOST_FLIGHT_IN_28_DAYS, MOST_FLIGHT_IN_A_YEAR, MOST_FLIGHT_IN_12_MONTHS}
use Rattle.roster_model.specs.Calendar.{Days}
use Rattle.roster_model.specs.records.Duty.{Duty}
use Rattle.roster_model.specs.Sums.{duty_on, flight_on, in_run, judged_days, month_flight}
use Rattle.roster_cumulative.specs.declared.judged.CappedSum.{CappedSum}
use Rattle.roster_cumulative.specs.declared.judged.TheConstants.{IN_A_TURN}

-- duty or flight of the run of days of which the one given is the last, or the month's flight
pub data Sum : Type 0 where
  Duty7 : ℕ → Sum
  Duty14 : ℕ → Sum
  Duty28 : ℕ → Sum
  Flight28 : ℕ → Sum
  MonthFlight : Sum

-- those of judged runs
abbrev pub judged_runs : Days → List Sum
judged_runs days =
    map Duty7 (judged_days days) ++ map Duty14 (judged_days days) ++ map Duty28 (judged_days days)
    ++ map Flight28 (judged_days days)

-- Those that are judged. The month's flight is there as often as makes whole turns of a loop over them.
abbrev pub judged_sums : Days → List Sum
judged_sums days =
    judged_runs days ++ replicate (IN_A_TURN - length (judged_runs days) % IN_A_TURN) MonthFlight

-- what a list has of it
abbrev pub sum_of : Days → List Duty → Sum → ℕ
sum_of days list (Duty7 last) = in_run (duty_on days list) SHORT_RUN last
sum_of days list (Duty14 last) = in_run (duty_on days list) MIDDLE_RUN last
sum_of days list (Duty28 last) = in_run (duty_on days list) LONG_RUN last
sum_of days list (Flight28 last) = in_run (flight_on days list) LONG_RUN last
sum_of days list MonthFlight = month_flight days list

-- The most that there may be of it, if so much was flown before the month, in its calendar year and
-- in the eleven months before it, and neither is too much by itself.
abbrev pub most_of : ℕ → ℕ → Sum → ℕ
most_of year eleven (Duty7 last) = MOST_DUTY_IN_7_DAYS
most_of year eleven (Duty14 last) = MOST_DUTY_IN_14_DAYS
most_of year eleven (Duty28 last) = MOST_DUTY_IN_28_DAYS
most_of year eleven (Flight28 last) = MOST_FLIGHT_IN_28_DAYS
most_of year eleven MonthFlight = min (MOST_FLIGHT_IN_A_YEAR - year) (MOST_FLIGHT_IN_12_MONTHS - eleven)

-- no sum is more than there may be
abbrev pub AreWithin : Days → List Duty → ℕ → ℕ → Type 0
AreWithin days list year eleven =
    All (λ sum. sum_of days list sum ≤ most_of year eleven sum) (judged_sums days)

-- what a list leaves of that
abbrev pub room_of : Days → List Duty → ℕ → ℕ → Sum → ℕ
room_of days list year eleven sum = most_of year eleven sum - sum_of days list sum

-- more minutes than any sum may have
abbrev pub most_load : ℕ
most_load = 65_535

-- what a list takes of it, as far as that is counted: more is more than any list may have
abbrev pub load_of : Days → List Duty → Sum → ℕ
load_of days list sum = min most_load (sum_of days list sum)

-- a sum, and the most that there may be of it
abbrev pub capped_of : Days → List Duty → ℕ → ℕ → Sum → CappedSum
capped_of days list year eleven sum =
    record { total = sum_of days list sum; most = most_of year eleven sum }

-- the loads find room
abbrev pub HaveRoom : List ℕ → List ℕ → Type 0
HaveRoom rooms loads = (j : ℕ) → slice_index loads j ≤ slice_index rooms j
