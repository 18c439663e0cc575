use Rattle.std.proofs.Common.{◌≡◌}
use Rattle.roster_plan_moves.proofs.tables.rivals_of.Given as goal

-- the judge is of the problem
abbrev pub invariant-loop-q : goal.invariant-loop-q
invariant-loop-q l = l.judge ≡ l.problem
