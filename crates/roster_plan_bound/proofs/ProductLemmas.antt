-- Products of whole numbers, and what words have of them.
use Rattle.std.proofs.Common.{◌≡◌, ℕ, zero, suc, ◌+◌, ◌-◌, ◌*◌, ◌<◌, ◌≤◌, ap, ◌∙◌, inl, inr, arith, ℤ, pos, negsuc, neg_ℤ, ◌+ℤ◌, ◌-ℤ◌, ◌*ℤ◌, ◌≤ℤ◌, ◌^◌, w64, to_z, of_z, FitsSigned}
use Rattle.std.proofs.Math.IntN.{*ℤ-negsuc}
use Rattle.std.proofs.Math.Nat.{mul-le-mul_left, mul-le-mul_right, mul-add}
use Rattle.std.specs.Prelude.{unsigned_abs}
use Rattle.std.proofs.lemmas.Bool.{cases_lt}
use Rattle.std.proofs.lemmas.Int.{ints, fits_signed_from_abs, to_z-of_z, unsigned_abs-mul}
use Rattle.roster_cost.specs.Amounts.{IsWithin}

pub abs_within : (most : ℕ) (z : ℤ) → IsWithin most z → unsigned_abs z ≤ most
abs_within most (pos n) within = let high = within.1 in omega (arith, ints, high)
abs_within most (negsuc n) within = let low = within.0 in omega (arith, ints, low)

pub within_abs : (most : ℕ) (z : ℤ) → unsigned_abs z ≤ most → IsWithin most z
within_abs most (pos n) few = (omega (arith, ints), omega (arith, ints, few))
within_abs most (negsuc n) few = (omega (arith, ints, few), omega (arith, ints))

-- no further from 0 than the product of the limits
pub times_within : (a b : ℤ) (m n : ℕ) → IsWithin m a → IsWithin n b → IsWithin (m * n) (a *ℤ b)
times_within a b m n first second =
    let left = abs_within m a first in
    let right = abs_within n b second in
    let more = mul-le-mul_right (unsigned_abs b) left in
    let most = mul-le-mul_left m right in
    within_abs (m * n) (a *ℤ b) (omega (arith, unsigned_abs-mul a b, more, most))

-- a small amount is what a word of it has
pub fits_in : (most : ℕ) (z : ℤ) → IsWithin most z → most < 2 ^ 63 → FitsSigned w64 z
fits_in most z within few = fits_signed_from_abs w64 z (omega (arith, abs_within most z within, few))

pub told_in : (most : ℕ) (z : ℤ) → IsWithin most z → most < 2 ^ 63 → to_z w64 (of_z w64 z) ≡ z
told_in most z within few = to_z-of_z w64 z (fits_in most z within few)

-- so is a product of two such amounts
pub product_told : (a b : ℤ) (m n : ℕ) → IsWithin m a → IsWithin n b → m < 2 ^ 63 → n < 2 ^ 63 → m * n < 2 ^ 63
    → to_z w64 (of_z w64 (to_z w64 (of_z w64 a) *ℤ to_z w64 (of_z w64 b))) ≡ a *ℤ b
product_told a b m n first second few many most =
    let here : to_z w64 (of_z w64 a) *ℤ to_z w64 (of_z w64 b) ≡ a *ℤ b =
    ap (λ z. z *ℤ to_z w64 (of_z w64 b)) (told_in m a first few) ∙ ap (λ z. a *ℤ z) (told_in n b second many) in
    ap (λ z. to_z w64 (of_z w64 z)) here ∙ told_in (m * n) (a *ℤ b) (times_within a b m n first second) most

pub pos_within : (most n : ℕ) → n ≤ most → IsWithin most (pos n)
pos_within most n few = (omega (arith, ints), omega (arith, ints, few))

pub times_more : (c : ℤ) (a b : ℕ) → c *ℤ pos (a + b) ≡ (c *ℤ pos a) +ℤ (c *ℤ pos b)
times_more (pos c) a b = let split = mul-add c a b in omega (arith, ints, split)
times_more (negsuc c) a b = let split = mul-add (suc c) a b in omega (arith, ints, split)

turned : (c : ℤ) (d : ℕ) → c *ℤ neg_ℤ (pos d) ≡ neg_ℤ (c *ℤ pos d)
turned (pos c) zero = omega (arith, ints)
turned (pos c) (suc d) = omega (arith, ints)
turned (negsuc c) zero = omega (arith, ints)
turned (negsuc c) (suc d) = omega (arith, ints)

turned_product : (w d : ℕ) → negsuc w *ℤ pos d ≡ neg_ℤ (pos (suc w * d))
turned_product w zero = omega (arith, ints)
turned_product w (suc d) = omega (arith, ints)

times_less : (c : ℤ) (a b : ℕ) → c *ℤ (pos a -ℤ pos b) ≡ (c *ℤ pos a) -ℤ (c *ℤ pos b)
times_less c a b =
    elim (cases_lt a b) [
      | inl below ↦
          let d : ℕ = b - a in
          let here : pos a -ℤ pos b ≡ neg_ℤ (pos d) = omega (arith, ints, below) in
          let there : b ≡ a + d = omega (arith, below) in
          let split = times_more c a d in
          let same : c *ℤ pos b ≡ c *ℤ pos (a + d) = ap (λ n. c *ℤ pos n) there in
          ap (λ z. c *ℤ z) here ∙ turned c d ∙ omega (arith, ints, split, same)
      | inr above ↦
          let d : ℕ = a - b in
          let here : pos a -ℤ pos b ≡ pos d = omega (arith, ints, above) in
          let there : a ≡ b + d = omega (arith, above) in
          let split = times_more c b d in
          let same : c *ℤ pos a ≡ c *ℤ pos (b + d) = ap (λ n. c *ℤ pos n) there in
          ap (λ z. c *ℤ z) here ∙ omega (arith, ints, split, same)
    ]

pub times_plus : (c z : ℤ) (n : ℕ) → c *ℤ (z +ℤ pos n) ≡ (c *ℤ z) +ℤ (c *ℤ pos n)
times_plus c (pos a) n = times_more c a n
times_plus c (negsuc a) n =
    let here : negsuc a +ℤ pos n ≡ pos n -ℤ pos (suc a) = omega (arith, ints) in
    let other : c *ℤ negsuc a ≡ neg_ℤ (c *ℤ pos (suc a)) = *ℤ-negsuc c a in
    ap (λ z. c *ℤ z) here ∙ times_less c n (suc a) ∙ omega (arith, ints, other)

pub product_more : (worth : ℤ) (m d : ℕ) → pos m ≤ℤ worth → pos (m * d) ≤ℤ (worth *ℤ pos d)
product_more (pos w) m d more =
    let few : m ≤ w = omega (arith, ints, more) in
    let scaled = mul-le-mul_right d few in
    omega (arith, ints, scaled)
product_more (negsuc w) m d more = absurd (omega (arith, ints, more))

pub product_less : (worth : ℤ) (m d : ℕ) → neg_ℤ (pos m) ≤ℤ worth → neg_ℤ (pos (m * d)) ≤ℤ (worth *ℤ pos d)
product_less (pos w) m d low = omega (arith, ints)
product_less (negsuc w) m d low =
    let few : suc w ≤ m = omega (arith, ints, low) in
    let scaled = mul-le-mul_right d few in
    let turned_here : negsuc w *ℤ pos d ≡ neg_ℤ (pos (suc w * d)) = turned_product w d in
    omega (arith, ints, scaled, turned_here)

-- less costs less, if a toll isn't below 0
pub toll_below : (toll : ℤ) (a b : ℕ) → pos 0 ≤ℤ toll → a ≤ b → (toll *ℤ pos a) ≤ℤ (toll *ℤ pos b)
toll_below (pos n) a b some few = let more = mul-le-mul_left n few in omega (arith, ints, more)
toll_below (negsuc n) a b some few = absurd (omega (arith, ints, some))
