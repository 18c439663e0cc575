use Rattle.roster_branchtree.specs.Spans.{AreRangesOf}
use Rattle.roster_branchtree.proofs.ranges.ranges_of.Given as goal

-- the ranges of the persons so far
abbrev pub invariant-loop-k : goal.invariant-loop-k
invariant-loop-k l = AreRangesOf l.table l.span l.k l.ranges.items
