-- What is known of a month while it is planned.
use Rattle.std.specs.Prelude.{◌≡◌, ℕ, Some, slice_get, ℤ, ◌≤ℤ◌}
use Rattle.roster_model.specs.Problem.{Problem}
use Rattle.roster_model.specs.Rosters.{Key}
use Rattle.roster_plan.specs.declared.months.Month.{Month}
use Rattle.roster_plan.specs.declared.parts.BasePlan.{BasePlan}
use Rattle.roster_plan.specs.Parts.{AreParts}
use Rattle.roster_plan.specs.Planned.{IsKnown, IsPlannedFrom}

-- what is known of each base, and of all
pub record IsMonth (problem : Problem) (month : Month) : Type 0 where
  pub parts : AreParts problem month.parts.items
  pub known : IsKnown problem month.planned

-- the same, and the roster isn't after the one that was known before
pub record IsMonthFrom (problem : Problem) (before : Key) (month : Month) : Type 0 where
  pub parts : AreParts problem month.parts.items
  pub planned : IsPlannedFrom problem before month.planned

-- what is known of the base has that bound, or a greater one
abbrev pub HasBound : ℕ → ℤ → Month → Type 0
HasBound base bound month = (part : BasePlan) → slice_get month.parts.items base ≡ Some part → bound ≤ℤ part.bound
