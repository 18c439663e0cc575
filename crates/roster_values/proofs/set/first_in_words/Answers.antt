use Rattle.std.proofs.Common.{◌*◌, inl, inr, arith}
use Rattle.std.proofs.lemmas.Bool.{cases_lt}
use Rattle.roster_values.specs.declared.set.TheConstants.{SET_WORDS}
use Rattle.roster_values.proofs.Words.{first_in_words, no_bit_in_word, no_bit_past}
use Rattle.roster_values.proofs.set.first_in_words.Goals as goal

pub returns-in-Some : goal.returns-in-Some
returns-in-Some c =
    first_in_words c.args.words.now (c.args.word * 64) c.loop-i.i 0 c.in-Some.bit (omega arith)
    (λ p l below. c.loop-i.invariant p l (omega arith)) c.in-Some.ensures

pub loop-i-preserved : goal.loop-i-preserved
loop-i-preserved c p l below = elim (cases_lt p (c.loop-i.i * 64)) [
  | inl earlier ↦ c.loop-i.invariant p l earlier
  | inr on ↦ no_bit_in_word c.args.words.now c.loop-i.i 0 p c.in_default.ensures (omega arith) below
]

pub returns : goal.returns
returns c p l = elim (cases_lt p (SET_WORDS * 64)) [
  | inl inside ↦ c.loop-i.invariant p l (omega arith)
  | inr past ↦ no_bit_past c.args.words.now p (omega (arith, c.told-words))
]
