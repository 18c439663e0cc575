use Rattle.std.proofs.Common.{bit_and}
use Rattle.roster_values.proofs.Words.{AreCombined}
use Rattle.roster_values.proofs.set.keep_bits.Given as goal

-- the words so far have the bits of both, and the rest is as it was
abbrev pub invariant-loop-i : goal.invariant-loop-i
invariant-loop-i l = AreCombined bit_and l.initial.words l.others l.i l.words
