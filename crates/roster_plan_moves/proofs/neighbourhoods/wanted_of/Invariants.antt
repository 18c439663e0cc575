use Rattle.std.proofs.Common.{◌≡◌, length}
use Rattle.roster_plan_moves.proofs.neighbourhoods.wanted_of.Given as goal

-- one for each person so far
abbrev pub invariant-loop-k : goal.invariant-loop-k
invariant-loop-k l = length l.wanted.items ≡ l.k-counter
