-- The best roster of a base, or what none costs less than.
use Rattle.std.specs.Prelude.{ℕ}
use Rattle.roster_model.specs.Problem.{Problem}
use Rattle.roster_model.specs.Settled.{IsHeld, IsNotAfter}
use Rattle.roster_bases.specs.Bases.{only}
use Rattle.roster_bases.specs.Homes.{IsHome, IsHomeBound}
use Rattle.roster_plan.specs.declared.exact.Found.{Found}
use Rattle.roster_plan.specs.declared.exact.Found.TheVariants.{AtLeast, Best}

-- what is found is so
abbrev pub IsExact : Problem → ℕ → Found → Type 0
IsExact problem base (Best roster) = IsHeld problem roster × IsNotAfter problem (IsHome problem (only base)) roster
IsExact problem base (AtLeast bound) = IsHomeBound problem (only base) bound
