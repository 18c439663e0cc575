use Rattle.std.proofs.Common.{◌/◌, bit_and, refl, arith}
use Rattle.std.proofs.lemmas.Nat.{and_le_l}
use Rattle.roster_values.proofs.Words.{bit_of_both, combined, AreCombined-next, AreCombined-start}
use Rattle.roster_values.proofs.set.keep_bits.Goals as goal

pub loop-i-init : goal.loop-i-init
loop-i-init c = AreCombined-start bit_and c.args.words.now c.args.others.now c.told-words

pub loop-i-preserved : goal.loop-i-preserved
loop-i-preserved c =
    AreCombined-next bit_and c.args.words.now c.args.others.now c.loop-i.words c.loop-i.i
    (λ a b l m. omega (arith, and_le_l a b)) (omega arith) c.told-others c.loop-i.invariant

pub returns-clause-bits : goal.returns-clause-bits
returns-clause-bits c p =
    bit_of_both c.args.words.now c.args.others.now c.loop-i.words p
    (combined bit_and c.args.words.now c.args.others.now c.loop-i.words c.loop-i.i refl (omega arith) c.told-words c.told-others c.loop-i.invariant (p / 64))
