use Rattle.std.proofs.Common.{◌≡◌}
use Rattle.roster_plan_moves.proofs.run.run.Given as goal

-- the draft is of the same problem
abbrev pub invariant-loop-i : goal.invariant-loop-i
invariant-loop-i l = l.draft ≡ l.fn.draft
