use Rattle.std.proofs.Common.{◌≡◌}
use Rattle.roster_plan_moves.proofs.run.assign_all.Given as goal

-- the draft is of the same problem
abbrev pub invariant-loop-change : goal.invariant-loop-change
invariant-loop-change l = l.draft ≡ l.fn.draft
