use Rattle.std.proofs.Common.{◌≡◌, ℕ, ◌*◌, ◌<◌, ◌≤◌, false}
use Rattle.roster_values.specs.Set.{has_bit}
use Rattle.roster_values.proofs.set.first_in_words.Given as goal

-- no bit of the words that were passed is set
abbrev pub invariant-loop-i : goal.invariant-loop-i
invariant-loop-i l = (p : ℕ) → l.word * 64 ≤ p → p < l.i * 64 → has_bit l.words p ≡ false
