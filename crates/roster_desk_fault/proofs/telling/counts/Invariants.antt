use Rattle.std.proofs.Common.{take}
use Rattle.roster_desk_fault.specs.Kinds.{kind_of}
use Rattle.roster_desk_words.specs.Parts.{AreParts}
use Rattle.roster_desk_fault.specs.Told.{IsCounted}
use Rattle.roster_desk_fault.proofs.telling.counts.Given as goal

abbrev pub invariant-loop-kind : goal.invariant-loop-kind
invariant-loop-kind l = AreParts (λ kind. IsCounted (kind_of kind)) (take l.kind-index l.kinds) l.out.items
