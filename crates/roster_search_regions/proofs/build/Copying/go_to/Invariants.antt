use Rattle.std.proofs.Common.{◌≡◌, ◌≤◌, ◌-◌, ◌++◌, List, length, take}
use Rattle.roster_model.specs.declared.limits.TheConstants.{MOST_PAIRINGS}
use Rattle.roster_values.specs.Set.{places_from}
use Rattle.roster_search_regions.specs.Regions.{AllowedLine}
use Rattle.roster_search_regions.specs.Writing.{IsWriting}
use Rattle.roster_search_regions.proofs.build.Copying.go_to.Given as goal

-- the path begins with the pairings of the set so far
abbrev pub invariant-loop-p : goal.invariant-loop-p
invariant-loop-p l = record {
  few : l.depth ≤ l.from;
  inside : l.depth ≤ length l.self.path;
  most : l.from ≤ MOST_PAIRINGS;
  begins : l.set ≡ take l.depth l.self.path ++ places_from l.from l.set;
  writing : (lines : List AllowedLine) → IsWriting l.initial.self.writer l.initial.self.path lines
      → IsWriting l.self.writer l.self.path lines;
}

abbrev pub decreases-loop-p : goal.decreases-loop-p
decreases-loop-p l = MOST_PAIRINGS - l.from
