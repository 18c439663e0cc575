-- What is counted, and how many minutes a day and a run of days may have.
use Rattle.std.specs.Prelude.{◌≡◌, ℕ, ◌*◌, ◌≤◌, List, slice_index}
use Rattle.roster_model.specs.declared.limits.TheConstants.{DAYS_BEFORE, LAST_INSTANT, MOST_DUTIES}
use Rattle.roster_model.specs.Calendar.{Days}
use Rattle.roster_model.specs.records.Duty.{Duty}
use Rattle.roster_model.specs.Sums.{duty_between, flight_between, on_day}
use Rattle.roster_cumulative.specs.declared.table.Measure.{Measure}
use Rattle.roster_cumulative.specs.declared.table.Measure.TheVariants as measures

abbrev pub minutes_of : Measure → Duty → ℕ → ℕ → ℕ
minutes_of measures.Duty = duty_between
minutes_of measures.Flight = flight_between

-- what a duty has in all, from its report to its release
abbrev pub minutes_in_all : Measure → Duty → ℕ
minutes_in_all measure duty = minutes_of measure duty duty.report duty.release

-- No day has more minutes than so many duties.
abbrev pub IsLight : ℕ → List ℕ → Type 0
IsLight duties table = (i : ℕ) → slice_index table i ≤ duties * LAST_INSTANT

-- The table has what the list has of the measure on each day.
pub record AreMinutesByDay (measure : Measure) (days : Days) (list : List Duty)
    (table : List ℕ) : Type 0 where
  pub value : (i : ℕ) → slice_index table i ≡ on_day (minutes_of measure) days list i
  pub light : IsLight MOST_DUTIES table

-- so this is the most that days in a row have, as many as are judged
abbrev pub most_in_run : ℕ
most_in_run = DAYS_BEFORE * (MOST_DUTIES * LAST_INSTANT)
