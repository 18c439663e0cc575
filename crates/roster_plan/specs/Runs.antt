-- Runs of changes.
use Rattle.std.specs.Prelude.{◌≡◌, ℕ, List, Some, slice_get, IfOk, IsSomeAnd}
use Rattle.roster_model.specs.Problem.{Problem}
use Rattle.roster_model.specs.Rosters.{IsLegalRoster}
use Rattle.roster_plan.specs.declared.runs.Run.{Run}

-- the run is done: it came to a legal roster, or memory ran out
abbrev pub IsDone : Problem → Run → Type 0
IsDone problem run = IsSomeAnd run.found (λ found. IfOk found (λ places. IsLegalRoster problem places.items))

-- so it is with all
pub record AreDone (problem : Problem) (runs : List Run) : Type 0 where
  pub each : (i : ℕ) (run : Run) → slice_get runs i ≡ Some run → IsDone problem run
