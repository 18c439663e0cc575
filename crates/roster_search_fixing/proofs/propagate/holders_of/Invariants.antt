use Rattle.roster_search_fixing.specs.Propagation.{IsSoleBefore}
use Rattle.roster_search_fixing.proofs.propagate.holders_of.Given as goal

-- of the persons so far none may have it, or only that one
abbrev pub invariant-loop-k : goal.invariant-loop-k
invariant-loop-k l = IsSoleBefore l.region l.p l.k l.sole
