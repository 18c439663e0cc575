use Rattle.std.proofs.Common.{◌≡◌}
use Rattle.roster_plan_moves.proofs.run.fill.Given as goal

-- the draft is of the same problem
abbrev pub invariant-loop-p : goal.invariant-loop-p
invariant-loop-p l = l.draft ≡ l.fn.draft
