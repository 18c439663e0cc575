use Rattle.std.proofs.Common.{◌≡◌, ℕ, ◌<◌, ◌*◌, false, ◌&&◌}
use Rattle.roster_values.specs.Set.{has_bit}
use Rattle.roster_values.proofs.set.Set.meets.Given as goal

-- no bit of the words so far is set in both
abbrev pub invariant-loop-i : goal.invariant-loop-i
invariant-loop-i l =
    (p : ℕ) → p < l.i * 64 → (has_bit l.self-inside.words p && has_bit l.other-inside.words p) ≡ false
