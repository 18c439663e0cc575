use Rattle.std.proofs.Common.{◌≡◌}
use Rattle.roster_plan_moves.proofs.tables.go_together.Given as goal

-- the judge is of the problem
abbrev pub invariant-loop-k : goal.invariant-loop-k
invariant-loop-k l = l.judge ≡ l.problem
