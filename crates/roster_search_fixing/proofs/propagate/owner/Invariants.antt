use Rattle.std.proofs.Common.{ℕ, ◌<◌}
use Rattle.roster_search_fixing.specs.Propagation.{IsUncertain}
use Rattle.roster_search_fixing.proofs.propagate.owner.Given as goal

-- none of those so far
abbrev pub invariant-loop-k : goal.invariant-loop-k
invariant-loop-k l = (j : ℕ) → j < l.k → IsUncertain l.region l.p j
