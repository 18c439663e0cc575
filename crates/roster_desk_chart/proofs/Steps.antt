-- What is so of all numbers below another one, and of one more.
use Rattle.std.proofs.Common.{◌+◌, ◌<◌, ◌≤◌, ℕ, arith, inl, inr, subst, sym}
use Rattle.std.proofs.lemmas.Bool.{cases_eq}

pub below-more : (P : ℕ → Type 0) (n : ℕ) → ((j : ℕ) → j < n → P j) → P n → (j : ℕ) → j < n + 1 → P j
below-more P n old new j below =
    elim (cases_eq j n) [
      | inl same ↦ subst P (sym same) new
      | inr other ↦ old j (omega (arith, other, below))
    ]

-- one minute no later than another one, and that than a third
pub no-later : (a b c : ℕ) → a ≤ b → b ≤ c → a ≤ c
no-later a b c first second = omega arith
