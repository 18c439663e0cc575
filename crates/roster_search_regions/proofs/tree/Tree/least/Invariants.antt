use Rattle.std.proofs.Common.{[], take}
use Rattle.std.specs.Prelude.{All, ◌≤ℤ◌}
use Rattle.roster_cost.specs.Amounts.{IsWithin}
use Rattle.roster_search_regions.specs.declared.choice.TheConstants.{MOST_VALUE}
use Rattle.roster_search_regions.specs.Prices.{value_of, AreSums}
use Rattle.roster_search_regions.specs.Trees.{lines_in, path_after}
use Rattle.roster_search_regions.proofs.tree.Tree.least.Given as goal

-- no line so far has less
abbrev pub invariant-loop-i : goal.invariant-loop-i
invariant-loop-i l = record {
  sums : AreSums l.prices l.sums (path_after [] (take l.i l.choices));
  least : All (λ line. l.least ≤ℤ value_of l.prices line) (lines_in (take l.i l.choices));
  bound : IsWithin MOST_VALUE l.least;
}
