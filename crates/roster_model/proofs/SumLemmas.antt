-- Sums over numbers in a row.
use Rattle.std.proofs.Common.{◌≡◌, ℕ, zero, suc, ◌+◌, ap, ◌∙◌, arith}
use Rattle.std.specs.List.{range_with_len, sum_by}
use Rattle.std.proofs.lemmas.List.Sums.{sum_by-cons}

-- the sum over some numbers in a row, and one more
pub sum_by-range_more : (f : ℕ → ℕ) (first n last : ℕ) → first + n ≡ last
    → sum_by f (range_with_len first (suc n)) ≡ sum_by f (range_with_len first n) + f last
sum_by-range_more f first zero last at = let same : first ≡ last = omega arith in ap (λ (i : ℕ). 0 + f i) same
sum_by-range_more f first (suc n) last at =
    omega (arith, sum_by-cons f first (range_with_len (first + 1) (suc n)), sum_by-cons f first (range_with_len (first + 1) n), sum_by-range_more f (first + 1) n last (omega arith))

-- the sum over the numbers below k, and over k too
pub sum_by-range_next : (f : ℕ → ℕ) (k : ℕ)
    → sum_by f (range_with_len 0 (k + 1)) ≡ sum_by f (range_with_len 0 k) + f k
sum_by-range_next f k =
    let next : k + 1 ≡ suc k = omega arith in
    ap (λ n. sum_by f (range_with_len 0 n)) next ∙ sum_by-range_more f 0 k k (omega arith)
