-- How far from 0 products go.
use Rattle.std.proofs.Common.{◌≡◌, ℕ, zero, suc, ◌+◌, ◌*◌, ◌<◌, ◌≤◌, inl, inr, subst, max, unsigned_abs, ℤ, pos, negsuc, ◌+ℤ◌, ◌*ℤ◌, arith}
use Rattle.std.proofs.Math.IntN.{suc_ℤ-*ℤ, zero-*ℤ}
use Rattle.std.proofs.lemmas.Bool.{cases_lt}
use Rattle.std.proofs.lemmas.Int.{ints}
use Rattle.roster_cost.specs.Amounts.{IsWithin}

-- what is within a limit is within a greater one
pub within_more : (least most : ℕ) (z : ℤ) → least ≤ most → IsWithin least z → IsWithin most z
within_more least most z less within = (omega (arith, ints, within.0), omega (arith, ints, within.1))

-- so many times a number
pub within_times : (n most : ℕ) (z : ℤ) → IsWithin most z → IsWithin (n * most) (pos n *ℤ z)
within_times zero most z within =
    let none = zero-*ℤ z in
    (omega (arith, ints, none), omega (arith, ints, none))
within_times (suc n) most z within =
    let more : pos (suc n) *ℤ z ≡ pos n *ℤ z +ℤ z = suc_ℤ-*ℤ (pos n) z in
    let rest = within_times n most z within in
    let product : suc n * most ≡ n * most + most = omega arith in
    both (n * most) (suc n * most) (pos n *ℤ z) (pos (suc n) *ℤ z) product more rest
  where
    both : (m m' : ℕ) (y y' : ℤ) → m' ≡ m + most → y' ≡ y +ℤ z → IsWithin m y → IsWithin m' y'
    both m m' y y' e f inside =
        (omega (arith, ints, inside.0, within.0), omega (arith, ints, inside.1, within.1))

-- a number is as far from 0 as its absolute value says
pub within_from_abs : (z : ℤ) (most : ℕ) → unsigned_abs z ≤ most → IsWithin most z
within_from_abs (pos n) most l = (omega (arith, ints), omega (arith, ints))
within_from_abs (negsuc n) most l = (omega (arith, ints), omega (arith, ints))

pub abs_from_within : (z : ℤ) (most : ℕ) → IsWithin most z → unsigned_abs z ≤ most
abs_from_within (pos n) most within = omega (arith, ints, within.1)
abs_from_within (negsuc n) most within = omega (arith, ints, within.0)

-- the greatest so far, with one number more
pub greatest-more : (f : ℕ → ℤ) (old new i : ℕ) → ((j : ℕ) → j < i → IsWithin old (f j))
    → new ≡ max old (unsigned_abs (f i)) → (j : ℕ) → j < i + 1 → IsWithin new (f j)
greatest-more f old new i before is j inside =
    elim (cases_lt j i) [
      | inl l ↦ within_more old new (f j) (omega (arith, is)) (before j l)
      | inr l ↦
          let same : i ≡ j = omega arith in
          subst (λ (m : ℕ). IsWithin new (f m)) same (within_from_abs (f i) new (omega (arith, is)))
    ]
