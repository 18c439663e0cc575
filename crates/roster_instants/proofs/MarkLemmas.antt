-- Moments in nanoseconds, as `jiff` has them, beside the same in seconds. A moment of a rule that is
-- kept within its year ends one nanosecond before the next year in the one count, and with the next
-- year in the other: no whole second lies between.
use Rattle.std.proofs.Common.{◌≡◌, refl, ℤ, pos, ◌+ℤ◌, ◌-ℤ◌, ◌*ℤ◌, ◌<ℤ◌, ◌≤ℤ◌, int_lt, int_le, ◌⊎◌, inl, inr, arith}
use Rattle.std.proofs.lemmas.Int.{by_lt_z, ints}
use Rattle.jiff_core.proofs.SignedLemmas.{signed_arith}
use Rattle.jiff_tz.specs.PosixRule.{clamp_to, in_window, in_span, saturating_add, saturating_sub, civil_min, civil_max}

-- so many seconds, in nanoseconds
abbrev pub nanos : ℤ → ℤ
nanos s = s *ℤ pos 1_000_000_000

-- r is the moment s or the nanosecond before it
pub record IsNear (s r : ℤ) : Type 0 where
  pub low : (nanos s -ℤ pos 1) ≤ℤ r
  pub high : r ≤ℤ nanos s

-- r is the moment s, or the nanosecond before it where that is the year's end
abbrev pub IsMark : ℤ → ℤ → ℤ → Type 0
IsMark end s r = ((s <ℤ end) × (r ≡ nanos s)) ⊎ ((s ≡ end) × (r ≡ nanos s -ℤ pos 1))

pub IsNear-mark : (end s r : ℤ) → IsMark end s r → IsNear s r
IsNear-mark end s r (inl m) = record { low = omega (arith, signed_arith); high = omega (arith, signed_arith) }
IsNear-mark end s r (inr m) = record { low = omega (arith, signed_arith); high = omega (arith, signed_arith) }

-- tests that agree
lt_same : (a b x y : ℤ) → (a <ℤ b → x <ℤ y) → (b ≤ℤ a → y ≤ℤ x) → int_lt a b ≡ int_lt x y
lt_same a b x y back forth = by_lt_z a b (λ h. let k = back h in grind (arith, ints)) (λ h. let k = forth h in grind (arith, ints))

le_same : (a b x y : ℤ) → (a ≤ℤ b → x ≤ℤ y) → (b <ℤ a → y <ℤ x) → int_le a b ≡ int_le x y
le_same a b x y back forth = by_lt_z b a (λ h. let k = forth h in grind (arith, ints)) (λ h. let k = back h in grind (arith, ints))

-- a whole second lies on the same side of both
pub near-lt : (at s r : ℤ) → IsNear s r → int_lt (nanos at) r ≡ int_lt at s
near-lt at s r n =
    lt_same (nanos at) r at s (λ h. omega (arith, signed_arith, n.low, n.high))
    (λ h. omega (arith, signed_arith, n.low, n.high))

pub near-le : (at s r : ℤ) → IsNear s r → int_le r (nanos at) ≡ int_le s at
near-le at s r n =
    le_same r (nanos at) s at (λ h. omega (arith, signed_arith, n.low, n.high))
    (λ h. omega (arith, signed_arith, n.low, n.high))

-- two moments of a year lie the same way in both counts
pub marks-le : (end s t q r : ℤ) → IsMark end s q → IsMark end t r → int_le q r ≡ int_le s t
marks-le end s t q r (inl m) (inl k) =
    le_same q r s t (λ h. omega (arith, signed_arith)) (λ h. omega (arith, signed_arith))
marks-le end s t q r (inl m) (inr k) =
    le_same q r s t (λ h. omega (arith, signed_arith)) (λ h. omega (arith, signed_arith))
marks-le end s t q r (inr m) (inl k) =
    le_same q r s t (λ h. omega (arith, signed_arith)) (λ h. omega (arith, signed_arith))
marks-le end s t q r (inr m) (inr k) =
    le_same q r s t (λ h. omega (arith, signed_arith)) (λ h. omega (arith, signed_arith))

-- what a clamp gives
clamp_low : (low high n : ℤ) → n <ℤ low → clamp_to low high n ≡ low
clamp_low low high n h = grind (arith, ints)

clamp_high : (low high n : ℤ) → low ≤ℤ high → high <ℤ n → clamp_to low high n ≡ high
clamp_high low high n k h = grind (arith, ints)

pub clamp_within : (low high n : ℤ) → low ≤ℤ n → n ≤ℤ high → clamp_to low high n ≡ n
clamp_within low high n k h = grind (arith, ints)

pub clamp_bounds : (low high n : ℤ) → low ≤ℤ high
    → (low ≤ℤ clamp_to low high n) × (clamp_to low high n ≤ℤ high)
clamp_bounds low high n h =
    by_lt_z n low (λ k. rw (clamp_low low high n k) (omega (arith, signed_arith), h))
    (λ k. by_lt_z high n (λ j. rw (clamp_high low high n h j) (h, omega (arith, signed_arith)))
    (λ j. rw (clamp_within low high n k j) (k, j)))

-- a moment that is kept within its year, in both counts
pub clamp-mark : (begins ends at n last : ℤ) → begins <ℤ ends → n ≡ nanos at → last ≡ nanos ends -ℤ pos 1
    → IsMark ends (clamp_to begins ends at) (clamp_to (nanos begins) last n)
clamp-mark begins ends at n last h same is_last =
    by_lt_z at begins
    (λ k. rw (clamp_low begins ends at k, clamp_low (nanos begins) last n (omega (arith, signed_arith))) (inl (h, refl)))
    (λ k. by_lt_z at ends
    (λ j. rw (clamp_within begins ends at k (omega (arith, signed_arith)), clamp_within (nanos begins) last n (omega (arith, signed_arith)) (omega (arith, signed_arith))) (inl (j, same)))
    (λ j. by_lt_z ends at
    (λ i. rw (clamp_high begins ends at (omega (arith, signed_arith)) i, clamp_high (nanos begins) last n (omega (arith, signed_arith)) (omega (arith, signed_arith))) (inr (refl, is_last)))
    (λ i. rw (clamp_within begins ends at k i, clamp_high (nanos begins) last n (omega (arith, signed_arith)) (omega (arith, signed_arith))) (inr (omega (arith, signed_arith), omega (arith, signed_arith))))))

-- a moment moved by whole seconds, well within the civil datetimes
pub near-add : (s r delta shift : ℤ) → IsNear s r → shift ≡ nanos delta
    → civil_min ≤ℤ (r +ℤ shift) → (r +ℤ shift) ≤ℤ civil_max → IsNear (s +ℤ delta) (saturating_add r shift)
near-add s r delta shift n same low high =
    rw (clamp_within civil_min civil_max (r +ℤ shift) low high)
    (record { low = omega (arith, signed_arith, n.low, n.high); high = omega (arith, signed_arith, n.low, n.high) })

pub near-sub : (s r delta shift : ℤ) → IsNear s r → shift ≡ nanos delta
    → civil_min ≤ℤ (r -ℤ shift) → (r -ℤ shift) ≤ℤ civil_max → IsNear (s -ℤ delta) (saturating_sub r shift)
near-sub s r delta shift n same low high =
    rw (clamp_within civil_min civil_max (r -ℤ shift) low high)
    (record { low = omega (arith, signed_arith, n.low, n.high); high = omega (arith, signed_arith, n.low, n.high) })

-- a whole second lies in both windows or in none
pub same_window : (end s t q r at : ℤ) → IsMark end s q → IsMark end t r
    → in_window (q, r) (nanos at) ≡ in_window (s, t) at
same_window end s t q r at m k =
    let a = IsNear-mark end s q m in
    let b = IsNear-mark end t r k in
    rw (marks-le end s t q r m k, near-le at s q a, near-lt at t r b, near-le at t r b, near-lt at s q a) refl

-- and in both spans or in none
pub same_span : (s t q r at : ℤ) → IsNear s q → IsNear t r → in_span q r (nanos at) ≡ in_span s t at
same_span s t q r at a b = rw (near-le at s q a, near-lt at t r b) refl
