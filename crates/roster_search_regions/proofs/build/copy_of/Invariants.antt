use Rattle.roster_search_regions.specs.Building.{allowed_between}
use Rattle.roster_search_regions.specs.Writing.{IsWriting}
use Rattle.roster_search_regions.proofs.build.copy_of.Given as goal

-- the lines so far are written
abbrev pub invariant-loop-i : goal.invariant-loop-i
invariant-loop-i l = IsWriting l.copying.writer l.copying.path (allowed_between l.scale l.lines l.start l.i)
