use Rattle.roster_search_least.specs.Parts.{AreWhole}
use Rattle.roster_search_least.proofs.boxes.whole.Given as goal

-- the ranges of the persons so far
abbrev pub invariant-loop-k : goal.invariant-loop-k
invariant-loop-k l = AreWhole l.table l.k l.ranges.items
