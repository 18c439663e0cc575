use Rattle.std.proofs.Common.{[], take}
use Rattle.roster_search_regions.specs.Prices.{AreSums}
use Rattle.roster_search_regions.specs.Trees.{path_after}
use Rattle.roster_search_regions.proofs.tree.Tree.greatest.Given as goal

-- the sums are those of the path so far
abbrev pub invariant-loop-i : goal.invariant-loop-i
invariant-loop-i l = AreSums l.prices l.sums (path_after [] (take l.i l.choices))
