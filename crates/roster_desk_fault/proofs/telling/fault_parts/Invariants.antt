use Rattle.std.proofs.Common.{take}
use Rattle.roster_desk_words.specs.Parts.{AreParts}
use Rattle.roster_desk_fault.specs.Told.{IsPart}
use Rattle.roster_desk_fault.proofs.telling.fault_parts.Given as goal

abbrev pub invariant-loop-told : goal.invariant-loop-told
invariant-loop-told l = AreParts IsPart (take l.told-index l.all) l.out.items
