-- Rosters of columns of a few persons.
use Rattle.std.specs.Prelude.{All, IfOk, IfSome, List}
use Rattle.roster_model.specs.Problem.{Problem}
use Rattle.roster_model.specs.Settled.{IsHeld}
use Rattle.roster_plan.specs.declared.dives.Tried.{Tried}

-- what was found, if anything was, is a legal roster with its cost, unless memory ran out
abbrev pub IsTried : Problem → Tried → Type 0
IsTried problem tried = IfOk tried.found (λ found. IfSome found (IsHeld problem))

-- so it is with all
abbrev pub AreTried : Problem → List Tried → Type 0
AreTried problem all = All (IsTried problem) all
