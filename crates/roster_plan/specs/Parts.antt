-- What is known of each base apart, and of all of them together.
use Rattle.std.specs.Prelude.{◌≡◌, ℕ, Bool, true, List, Some, length, slice_get, ℤ}
use Rattle.roster_model.specs.declared.limits.TheConstants.{MOST_BASES}
use Rattle.roster_model.specs.Problem.{Problem}
use Rattle.roster_model.specs.Rosters.{IsLegalRoster, key_of}
use Rattle.roster_model.specs.Settled.{IsHeld, IsNotAfter}
use Rattle.roster_bases.specs.Bases.{before, only}
use Rattle.roster_bases.specs.Homes.{IsHome, IsHomeBound}
use Rattle.roster_plan.specs.declared.parts.BasePlan.{BasePlan}

-- The roster is legal, and only persons of the base fly. None of those rosters costs less than the bound. If
-- the roster is said to be the best one of the base, it isn't after any of them.
pub record IsPart (problem : Problem) (base : ℕ) (part : BasePlan) : Type 0 where
  pub held : IsHeld problem part.roster
  pub home : IsHome problem (only base) part.roster.places
  pub bounded : IsHomeBound problem (only base) part.bound
  pub best : part.is_best ≡ true → IsNotAfter problem (IsHome problem (only base)) part.roster

-- so it is with each of the first bases
pub record ArePartsOf (problem : Problem) (n : ℕ) (parts : List BasePlan) : Type 0 where
  pub covers : length parts ≡ n
  pub each : (base : ℕ) (part : BasePlan) → slice_get parts base ≡ Some part → IsPart problem base part

-- and with each base there may be
abbrev pub AreParts : Problem → List BasePlan → Type 0
AreParts problem parts = ArePartsOf problem MOST_BASES parts

-- The same of the first bases together: their roster, what no roster of them costs less than, and whether
-- theirs is known to be the best one.
pub record AreTogether (problem : Problem) (n : ℕ) (places : List ℕ) (bound : ℤ) (is_best : Bool)
    : Type 0 where
  pub legal : IsLegalRoster problem places
  pub own : IsHome problem (before n) places
  pub bounded : IsHomeBound problem (before n) bound
  pub best : is_best ≡ true → IsNotAfter problem (IsHome problem (before n)) (key_of problem places)
