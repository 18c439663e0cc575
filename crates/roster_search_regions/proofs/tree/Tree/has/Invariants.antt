use Rattle.std.proofs.Common.{◌≡◌, [], take}
use Rattle.std.specs.Prelude.{All}
use Rattle.roster_search_regions.specs.Trees.{lines_in, path_after, HasJust}
use Rattle.roster_search_regions.proofs.tree.Tree.has.Given as goal

-- no line so far has just the set
abbrev pub invariant-loop-i : goal.invariant-loop-i
invariant-loop-i l = record {
  there : l.path ≡ path_after [] (take l.i l.choices);
  none : All (λ line. ¬ HasJust l.set line) (lines_in (take l.i l.choices));
}
