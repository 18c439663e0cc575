use Rattle.roster_plan.proofs.NearLemmas.{HasAll}
use Rattle.roster_plan.proofs.nearby.all_of.Given as goal

-- the set has the pairings so far
abbrev pub invariant-loop-p : goal.invariant-loop-p
invariant-loop-p l = HasAll l.p l.all
