-- Searches of neighbourhoods.
use Rattle.std.specs.Prelude.{◌≡◌, ℕ, List, Some, IfOk, IsSomeAnd, length, slice_get}
use Rattle.roster_model.specs.Problem.{Problem}
use Rattle.roster_model.specs.Rosters.{Key}
use Rattle.roster_plan.specs.Near.{IsFoundNear}
use Rattle.roster_plan.specs.declared.together.Attempt.{Attempt}

-- the neighbourhood says of each person what they keep and may have beside
abbrev pub IsMade : Problem → Attempt → Type 0
IsMade problem attempt = length attempt.of.wanted.items ≡ length problem.persons

-- so it is with all
pub record AreMade (problem : Problem) (attempts : List Attempt) : Type 0 where
  pub each : (i : ℕ) (attempt : Attempt) → slice_get attempts i ≡ Some attempt → IsMade problem attempt

-- the neighbourhood of the roster was searched, or memory ran out
abbrev pub IsSought : Problem → Key → Attempt → Type 0
IsSought problem before attempt =
    IsSomeAnd attempt.found (λ found. IfOk found (IsFoundNear problem before attempt.of.wanted.items))

-- so it is with all
pub record AreSought (problem : Problem) (before : Key) (attempts : List Attempt) : Type 0 where
  pub each : (i : ℕ) (attempt : Attempt) → slice_get attempts i ≡ Some attempt
      → IsSought problem before attempt
