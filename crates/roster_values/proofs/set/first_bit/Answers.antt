use Rattle.std.proofs.Common.{ℕ, ◌+◌, ◌*◌, ◌/◌, ◌%◌, arith}
use Rattle.roster_values.proofs.Words.{first_from_before, first_in_words, no_bit_in_word, no_bit_past}
use Rattle.roster_values.proofs.set.first_bit.Goals as goal

pub returns-then-word-ge-SET_WORDS : goal.returns-then-word-ge-SET_WORDS
returns-then-word-ge-SET_WORDS c p l = no_bit_past c.args.words.now p (omega (arith, c.told-words))

pub returns-in-Some : goal.returns-in-Some
returns-in-Some c =
    let from : ℕ = c.args.from in
    first_in_words c.args.words.now from (from / 64) (from % 64) c.in-Some.bit (omega arith)
    (λ p l below. absurd (omega arith)) c.in-Some.ensures

pub returns : goal.returns
returns c =
    let from : ℕ = c.args.from in
    first_from_before c.args.words.now from ((from / 64 + 1) * 64) _ (omega arith)
    (λ p l below. no_bit_in_word c.args.words.now (from / 64) (from % 64) p c.in_default.ensures (omega arith) below)
    c.first_in_words.ensures
