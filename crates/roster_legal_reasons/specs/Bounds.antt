-- What each limit looks at.
use Rattle.std.specs.Prelude.{ℕ, ◌+◌, ◌≤◌, List}
use Rattle.roster_model.specs.declared.limits.TheConstants.{DAYS_BEFORE}
use Rattle.roster_model.specs.declared.profile.TheConstants.{SHORT_RUN, MIDDLE_RUN, LONG_RUN, MOST_DUTY_IN_7_DAYS, MOST_DUTY_IN_14_DAYS, MOST_DUTY_IN_28_DAYS, MOST_FLIGHT_IN_28_DAYS, MOST_FLIGHT_IN_A_YEAR, MOST_FLIGHT_IN_12_MONTHS}
use Rattle.roster_model.specs.Calendar.{Days}
use Rattle.roster_model.specs.records.Duty.{Duty}
use Rattle.roster_model.specs.Rules.{Limit, Duty7, Duty14, Duty28, Flight28, FlightYear, Flight12}
use Rattle.roster_model.specs.Rules.Limits.{KeepsLimit}
use Rattle.roster_model.specs.Sums.{duty_on, flight_on, month_flight}
use Rattle.roster_legal_reasons.specs.declared.bounds.Bound.{Bound}
use Rattle.roster_legal_reasons.specs.declared.bounds.Bound.TheVariants.{Run, Month}
use Rattle.roster_legal_reasons.specs.declared.bounds.Measure.{Measure}
use Rattle.roster_legal_reasons.specs.declared.bounds.Measure.TheVariants as measures

-- What the limit looks at, if so much was flown before the month, in its calendar year and in the eleven
-- months before it.
abbrev pub bound_of : ℕ → ℕ → Limit → Bound
bound_of year eleven Duty7 = Run measures.Duty SHORT_RUN MOST_DUTY_IN_7_DAYS
bound_of year eleven Duty14 = Run measures.Duty MIDDLE_RUN MOST_DUTY_IN_14_DAYS
bound_of year eleven Duty28 = Run measures.Duty LONG_RUN MOST_DUTY_IN_28_DAYS
bound_of year eleven Flight28 = Run measures.Flight LONG_RUN MOST_FLIGHT_IN_28_DAYS
bound_of year eleven FlightYear = Month year MOST_FLIGHT_IN_A_YEAR
bound_of year eleven Flight12 = Month eleven MOST_FLIGHT_IN_12_MONTHS

-- the minutes of a list on a day, by what is counted
abbrev pub minutes_by : Measure → Days → List Duty → ℕ → ℕ
minutes_by measures.Duty days list = duty_on days list
minutes_by measures.Flight days list = flight_on days list

-- the limit is kept
abbrev pub KeepsBound : Days → List Duty → Bound → Type 0
KeepsBound days list (Run measure n most) = KeepsLimit (minutes_by measure days list) days n most
KeepsBound days list (Month carried most) = carried + month_flight days list ≤ most

-- a run of days is no longer than the days before the month
abbrev pub IsSmall : Bound → Type 0
IsSmall (Run measure n most) = n ≤ DAYS_BEFORE
IsSmall (Month carried most) = Unit {0}
