use Rattle.std.proofs.Common.{arith}
use Rattle.roster_values.proofs.Words.{no_bit_from, first_bit_from}
use Rattle.roster_values.proofs.set.first_in_word.Goals as goal

pub returns-then-rest-eq0 : goal.returns-then-rest-eq0
returns-then-rest-eq0 c = no_bit_from c.args.word c.args.from c.if-rest-eq0.true

pub returns : goal.returns
returns c = first_bit_from c.args.word c.args.from (omega arith) (omega arith)
