use Rattle.roster_bounds.specs.Chosen.{AreSums}
use Rattle.roster_bounds.proofs.reduced.price_sums.Given as goal

-- the sums of the lines so far
abbrev pub invariant-loop-i : goal.invariant-loop-i
invariant-loop-i l = AreSums l.table l.prices l.k l.i l.sums.items
