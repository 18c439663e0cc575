use Rattle.std.proofs.Common.{◌-◌, List, length}
use Rattle.roster_search_regions.specs.Regions.{AllowedLine}
use Rattle.roster_search_regions.specs.Writing.{IsWriting}
use Rattle.roster_search_regions.proofs.writer.Writer.reach.Given as goal

-- what was so when it began stays so
abbrev pub invariant-loop-self : goal.invariant-loop-self
invariant-loop-self l =
    (lines : List AllowedLine) → IsWriting l.initial.self l.path lines → IsWriting l.self l.path lines

abbrev pub decreases-loop-self : goal.decreases-loop-self
decreases-loop-self l = length l.path - l.self.shared
