use Rattle.std.proofs.Common.{◌≡◌}
use Rattle.roster_test_solve.proofs.judged.legal_sets.Given as goal

-- the judge is the problem's
abbrev pub invariant-loop-bits : goal.invariant-loop-bits
invariant-loop-bits l = l.judge ≡ l.problem
