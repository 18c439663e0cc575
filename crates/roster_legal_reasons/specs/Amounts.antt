-- What breaks a limit, and how much of it is used.
use Rattle.std.specs.Prelude.{◌≡◌, ℕ, ◌+◌, ◌-◌, ◌<◌, List}
use Rattle.roster_model.specs.Calendar.{Days}
use Rattle.roster_model.specs.records.Duty.{Duty}
use Rattle.roster_model.specs.Sums.{month_flight}
use Rattle.roster_legal_reasons.specs.declared.bounds.Bound.{Bound}
use Rattle.roster_legal_reasons.specs.declared.bounds.Bound.TheVariants as bounds
use Rattle.roster_legal_reasons.specs.declared.amounts.Amount.{Amount}
use Rattle.roster_legal_reasons.specs.declared.amounts.Amount.TheVariants as amounts
use Rattle.roster_legal_reasons.specs.declared.amounts.MonthFlight.{MonthFlight}
use Rattle.roster_legal_reasons.specs.Bounds.{minutes_by}
use Rattle.roster_legal_reasons.specs.Runs.{IsFirstRunOver, IsGreatestRun}

-- So much was flown before the month, so much is flown in it, and so much there may be of both.
pub record IsMonthFlight (days : Days) (list : List Duty) (before limit : ℕ)
    (told : MonthFlight) : Type 0 where
  pub carried : told.carried ≡ before
  pub flown : told.flown ≡ month_flight days list
  pub most : told.most ≡ limit

-- and there is more
pub record IsMonthOver (days : Days) (list : List Duty) (before limit : ℕ) (told : MonthFlight) : Type 0 where
  pub month : IsMonthFlight days list before limit told
  pub over : limit < told.carried + told.flown

-- The amount is what first breaks a limit that looks at this.
abbrev pub IsOver : Days → List Duty → Bound → Amount → Type 0
IsOver days list (bounds.Run measure n most) (amounts.Run run) =
    IsFirstRunOver (minutes_by measure days list) days n most run
IsOver days list (bounds.Run measure n most) (amounts.Month month) = ⊥
IsOver days list (bounds.Month carried most) (amounts.Run run) = ⊥
IsOver days list (bounds.Month carried most) (amounts.Month month) = IsMonthOver days list carried most month

-- The amount is what is used of a limit that looks at this.
abbrev pub IsUse : Days → List Duty → Bound → Amount → Type 0
IsUse days list (bounds.Run measure n most) (amounts.Run run) =
    IsGreatestRun (minutes_by measure days list) days n most run
IsUse days list (bounds.Run measure n most) (amounts.Month month) = ⊥
IsUse days list (bounds.Month carried most) (amounts.Run run) = ⊥
IsUse days list (bounds.Month carried most) (amounts.Month month) = IsMonthFlight days list carried most month

-- the minutes that it leaves of the limit
abbrev pub left_of : Amount → ℕ
left_of (amounts.Run run) = run.most - run.minutes
left_of (amounts.Month month) = month.most - (month.carried + month.flown)
