-- What is known of a plan, and what one is that goes on from a known roster.
use Rattle.std.specs.Prelude.{◌≡◌, true}
use Rattle.roster_model.specs.Problem.{Problem}
use Rattle.roster_model.specs.Rosters.{Key, key_le}
use Rattle.roster_model.specs.Settled.{Anywhere, IsHeld, IsLowerBound, IsNotAfter}
use Rattle.roster_plan.specs.declared.known.Planned.{Planned}

-- The roster is legal. No legal roster costs less than the bound. If the roster is said to be the best one,
-- it isn't after any legal roster.
pub record IsKnown (problem : Problem) (planned : Planned) : Type 0 where
  pub held : IsHeld problem planned.roster
  pub bounded : IsLowerBound problem planned.bound
  pub best : planned.is_best ≡ true → IsNotAfter problem Anywhere planned.roster
  pub tight : planned.is_best ≡ true → planned.bound ≡ planned.roster.cost

-- the same, and the roster isn't after the one that was known before
pub record IsPlannedFrom (problem : Problem) (before : Key) (planned : Planned) : Type 0 where
  pub known : IsKnown problem planned
  pub kept : key_le planned.roster before ≡ true
