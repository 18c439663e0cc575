use Rattle.roster_legal_reasons.proofs.Turns.{InTurnTo}
use Rattle.roster_legal_reasons.proofs.rules.overlap.first_overlap.Given as goal

-- of the neighbours so far one ends before the next begins
abbrev pub invariant-loop-i : goal.invariant-loop-i
invariant-loop-i l = InTurnTo l.list l.i
