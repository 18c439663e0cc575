use Rattle.std.proofs.Common.{◌≡◌, [], take}
use Rattle.std.specs.Prelude.{filter, int_le}
use Rattle.roster_search_regions.specs.Prices.{value_of, AreSums}
use Rattle.roster_search_regions.specs.Trees.{lines_in, path_after}
use Rattle.roster_search_regions.specs.Writing.{IsWriting}
use Rattle.roster_search_regions.proofs.tree.Tree.copied_within.Given as goal

-- the path has come to the choice before, and the lines so far that pass are written
abbrev pub invariant-loop-i : goal.invariant-loop-i
invariant-loop-i l = record {
  there : l.path ≡ path_after [] (take l.i l.choices);
  sums : AreSums l.prices l.sums (path_after [] (take l.i l.choices));
  writing : IsWriting l.writer (path_after [] (take l.i l.choices))
      (filter (λ line. int_le (value_of l.prices line) l.most) (lines_in (take l.i l.choices)));
}
