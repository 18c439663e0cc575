use Rattle.roster_desk_fault.specs.Told.{IsOfWord}
use Rattle.roster_desk_fault.proofs.warning.warnings_text.Given as goal

abbrev pub invariant-loop-n : goal.invariant-loop-n
invariant-loop-n l = IsOfWord l.word l.out.items
