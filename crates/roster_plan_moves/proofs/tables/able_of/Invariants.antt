use Rattle.std.proofs.Common.{◌≡◌}
use Rattle.roster_plan_moves.proofs.tables.able_of.Given as goal

-- the judge is of the problem
abbrev pub invariant-loop-p : goal.invariant-loop-p
invariant-loop-p l = l.judge ≡ l.problem
