use Rattle.std.proofs.Common.{◌≡◌, [], take}
use Rattle.std.specs.Prelude.{filter}
use Rattle.roster_search_regions.specs.Tests.{passes}
use Rattle.roster_search_regions.specs.Trees.{lines_in, path_after}
use Rattle.roster_search_regions.specs.Writing.{IsWriting}
use Rattle.roster_search_regions.proofs.tree.Tree.copied_passing.Given as goal

-- the path has come to the choice before, and the lines so far that pass are written
abbrev pub invariant-loop-i : goal.invariant-loop-i
invariant-loop-i l = record {
  there : l.path ≡ path_after [] (take l.i l.choices);
  writing : IsWriting l.writer (path_after [] (take l.i l.choices))
      (filter (λ line. passes l.test line.set) (lines_in (take l.i l.choices)));
}
