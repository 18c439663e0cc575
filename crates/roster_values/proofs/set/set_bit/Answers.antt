use Rattle.std.proofs.Common.{arith, refl}
use Rattle.roster_values.proofs.Words.{has_bit-set, word_fits}
use Rattle.roster_values.proofs.set.set_bit.Goals as goal

pub returns-clause-bits : goal.returns-clause-bits
returns-clause-bits c = has_bit-set c.args.words.now c.args.p _ (omega arith) refl

pub returns-clause-fits : goal.returns-clause-fits
returns-clause-fits c fits = word_fits c.args.words.now c.args.p (omega arith) fits
