use Rattle.std.proofs.Common.{take}
use Rattle.roster_desk_words.specs.Parts.{AreParts}
use Rattle.roster_desk_fault.specs.Told.{IsOfWord}
use Rattle.roster_desk_fault.proofs.warning_text.signs_text.Given as goal

abbrev pub invariant-loop-sign : goal.invariant-loop-sign
invariant-loop-sign l = AreParts (λ sign. IsOfWord sign.1.now) (take l.sign-index l.signs) l.out.items
