use Rattle.std.proofs.Common.{bit_or}
use Rattle.roster_values.proofs.Words.{AreCombined}
use Rattle.roster_values.proofs.set.add_bits.Given as goal

-- the words so far have the bits of either, and the rest is as it was
abbrev pub invariant-loop-i : goal.invariant-loop-i
invariant-loop-i l = AreCombined bit_or l.initial.words l.others l.i l.words
