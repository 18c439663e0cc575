-- Limits of duty and of flight: ORO.FTL.210 of Regulation (EU) No 83/2014.
use Rattle.std.specs.Prelude.{ℕ, ◌+◌, ◌≤◌, List, All}
use Rattle.roster_model.specs.declared.profile.TheConstants.{SHORT_RUN, MIDDLE_RUN, LONG_RUN, MOST_DUTY_IN_7_DAYS, MOST_DUTY_IN_14_DAYS, MOST_DUTY_IN_28_DAYS, MOST_FLIGHT_IN_28_DAYS, MOST_FLIGHT_IN_A_YEAR, MOST_FLIGHT_IN_12_MONTHS}
use Rattle.roster_model.specs.Calendar.{Days}
use Rattle.roster_model.specs.records.Duty.{Duty}
use Rattle.roster_model.specs.Sums.{in_run, judged_days, duty_on, flight_on, month_flight}

-- Each judged run of n days has at most so many minutes.
abbrev pub KeepsLimit : (ℕ → ℕ) → Days → ℕ → ℕ → Type 0
KeepsLimit minutes days n most = All (λ last. in_run minutes n last ≤ most) (judged_days days)

-- Duty is at most 60 hours in each judged run of 7 days. (ORO.FTL.210(a)(1))
abbrev pub KeepsDuty7 : Days → List Duty → Type 0
KeepsDuty7 days list = KeepsLimit (duty_on days list) days SHORT_RUN MOST_DUTY_IN_7_DAYS

-- Duty is at most 110 hours in each judged run of 14 days. (ORO.FTL.210(a)(2))
abbrev pub KeepsDuty14 : Days → List Duty → Type 0
KeepsDuty14 days list = KeepsLimit (duty_on days list) days MIDDLE_RUN MOST_DUTY_IN_14_DAYS

-- Duty is at most 190 hours in each judged run of 28 days. (ORO.FTL.210(a)(3))
abbrev pub KeepsDuty28 : Days → List Duty → Type 0
KeepsDuty28 days list = KeepsLimit (duty_on days list) days LONG_RUN MOST_DUTY_IN_28_DAYS

-- Flight is at most 100 hours in each judged run of 28 days. (ORO.FTL.210(b)(1))
abbrev pub KeepsFlight28 : Days → List Duty → Type 0
KeepsFlight28 days list = KeepsLimit (flight_on days list) days LONG_RUN MOST_FLIGHT_IN_28_DAYS

-- The month's flight, with what was flown before the month in its calendar year, is at most 900
-- hours. (ORO.FTL.210(b)(2))
abbrev pub KeepsFlightYear : Days → List Duty → ℕ → Type 0
KeepsFlightYear days list year = year + month_flight days list ≤ MOST_FLIGHT_IN_A_YEAR

-- The month's flight, with what was flown in the eleven calendar months before the month, is at most
-- 1000 hours. (ORO.FTL.210(b)(3))
abbrev pub KeepsFlight12 : Days → List Duty → ℕ → Type 0
KeepsFlight12 days list eleven = eleven + month_flight days list ≤ MOST_FLIGHT_IN_12_MONTHS
