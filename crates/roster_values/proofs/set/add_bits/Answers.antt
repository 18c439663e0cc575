use Rattle.std.proofs.Common.{◌/◌, bit_or, refl, arith}
use Rattle.std.proofs.lemmas.Nat.{or_lt}
use Rattle.roster_values.proofs.Words.{bit_of_either, combined, AreCombined-next, AreCombined-start}
use Rattle.roster_values.proofs.set.add_bits.Goals as goal

pub loop-i-init : goal.loop-i-init
loop-i-init c = AreCombined-start bit_or c.args.words.now c.args.others.now c.told-words

pub loop-i-preserved : goal.loop-i-preserved
loop-i-preserved c =
    AreCombined-next bit_or c.args.words.now c.args.others.now c.loop-i.words c.loop-i.i
    (or_lt 64) (omega arith) c.told-others c.loop-i.invariant

pub returns-clause-bits : goal.returns-clause-bits
returns-clause-bits c p =
    bit_of_either c.args.words.now c.args.others.now c.loop-i.words p
    (combined bit_or c.args.words.now c.args.others.now c.loop-i.words c.loop-i.i refl (omega arith) c.told-words c.told-others c.loop-i.invariant (p / 64))
