-- The days off in a row that there are.
use Rattle.std.specs.Prelude.{◌≡◌, ◌⊎◌, ℕ, ◌+◌, ◌<◌, ◌≤◌, List}
use Rattle.roster_model.specs.Calendar.{Days}
use Rattle.roster_model.specs.Rules.DaysOff.{IsPairOff}
use Rattle.roster_model.specs.records.Duty.{Duty}
use Rattle.roster_legal_reasons.specs.declared.rules.days_off.FewDaysOff.{FewDaysOff}
use Rattle.roster_legal_reasons.specs.declared.rules.days_off.FewDaysOff.TheVariants.{NoPair, OnePair, ThreeDays}

-- No two days in a row are off, from this day on.
abbrev pub HasNoPairFrom : Days → List Duty → ℕ → Type 0
HasNoPairFrom days list from = (i : ℕ) → from ≤ i → ¬ IsPairOff days list i

-- Day i and the next one are off, and no two days in a row before them are, from the day given on.
pub record IsFirstPairFrom (days : Days) (list : List Duty) (from i : ℕ) : Type 0 where
  pub after : from ≤ i
  pub off : IsPairOff days list i
  pub first : (j : ℕ) → from ≤ j → j < i → ¬ IsPairOff days list j

-- All days of the month that are off together with the next one: none, one, or one and the day after it.
abbrev pub IsFewDaysOff : Days → List Duty → FewDaysOff → Type 0
IsFewDaysOff days list NoPair = (i : ℕ) → ¬ IsPairOff days list i
IsFewDaysOff days list (OnePair first) =
    IsPairOff days list first × ((i : ℕ) → IsPairOff days list i → i ≡ first)
IsFewDaysOff days list (ThreeDays first) =
    IsPairOff days list first × IsPairOff days list (first + 1)
    × ((i : ℕ) → IsPairOff days list i → (i ≡ first) ⊎ (i ≡ first + 1))
