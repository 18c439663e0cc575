-- Sums over ranges and lists.
use Rattle.std.proofs.Common.{◌≡◌, ℕ, zero, suc, ◌+◌, ◌*◌, ◌<◌, ◌≤◌, List, [], ◌∷◌, length, get_or, take, drop, ℤ, pos, ◌+ℤ◌, ◌-ℤ◌, ◌≤ℤ◌, refl, sym, ap, ◌∙◌, inl, inr, arith}
use Rattle.std.specs.Prelude.{All}
use Rattle.std.specs.List.{range_with_len}
use Rattle.std.proofs.lemmas.Bool.{cases_eq}
use Rattle.std.proofs.lemmas.Int.{ints}
use Rattle.std.proofs.lemmas.List.{drop_all, drop_more, take_more}
use Rattle.std.proofs.lemmas.List.Elements.{All-head, All-tail}
use Rattle.roster_model.specs.Costs.{total}
use Rattle.roster_model.proofs.CostLemmas.{total-nil, total-cons, total-append}
use Rattle.roster_cost.specs.Amounts.{IsWithin}

total-range_last : (f : ℕ → ℤ) (first n last : ℕ) → first + n ≡ last
    → total f (range_with_len first (suc n)) ≡ total f (range_with_len first n) +ℤ f last
total-range_last f first zero last at =
    let here : first ≡ last = omega arith in
    omega (arith, ints, total-cons f first [], total-nil f, ap f here)
total-range_last f first (suc n) last at =
    omega (arith, ints, total-cons f first (range_with_len (first + 1) (suc n)), total-cons f first (range_with_len (first + 1) n), total-range_last f (first + 1) n last (omega arith))

pub total-range_more : (f : ℕ → ℤ) (first n : ℕ)
    → total f (range_with_len first (n + 1)) ≡ total f (range_with_len first n) +ℤ f (first + n)
total-range_more f first n =
    let next : n + 1 ≡ suc n = omega arith in
    ap (λ m. total f (range_with_len first m)) next ∙ total-range_last f first n (first + n) refl

pub total-take_more : (xs : List ℤ) (i : ℕ) → i < length xs
    → total (λ x. x) (take (i + 1) xs) ≡ total (λ x. x) (take i xs) +ℤ get_or xs i (pos 0)
total-take_more xs i inside =
    let x : ℤ = get_or xs i (pos 0) in
    let split =
    ap (total (λ (y : ℤ). y)) (take_more xs i (pos 0) inside)
    ∙ total-append (λ (y : ℤ). y) (take i xs) (x ∷ []) in
    omega (arith, ints, split, total-cons (λ (y : ℤ). y) x [], total-nil (λ (y : ℤ). y))

-- a sum is no further from 0 than its elements are at most
pub total-within : (xs : List ℤ) (most : ℕ) → All (IsWithin most) xs
    → IsWithin (length xs * most) (total (λ x. x) xs)
total-within [] most each =
    (omega (arith, ints, total-nil (λ (x : ℤ). x)), omega (arith, ints, total-nil (λ (x : ℤ). x)))
total-within (x ∷ xs) most each =
    let here = All-head (IsWithin most) x xs each in
    let rest = total-within xs most (All-tail (IsWithin most) x xs each) in
    let split = total-cons (λ (y : ℤ). y) x xs in
    (omega (arith, ints, split, here.0, rest.0), omega (arith, ints, split, here.1, rest.1))

-- the sum of a list is that of its elements by their places
total-drop : (xs : List ℤ) (n i : ℕ) → i + n ≡ length xs
    → total (λ x. x) (drop i xs) ≡ total (λ k. get_or xs k (pos 0)) (range_with_len i n)
total-drop xs zero i at =
    ap (total (λ (x : ℤ). x)) (drop_all i xs (omega arith)) ∙ total-nil (λ (x : ℤ). x)
    ∙ sym (total-nil (λ k. get_or xs k (pos 0)))
total-drop xs (suc n) i at =
    ap (total (λ (x : ℤ). x)) (drop_more xs i (pos 0) (omega arith))
    ∙ total-cons (λ (x : ℤ). x) (get_or xs i (pos 0)) (drop (i + 1) xs)
    ∙ ap (λ z. get_or xs i (pos 0) +ℤ z) (total-drop xs n (i + 1) (omega arith))
    ∙ sym (total-cons (λ k. get_or xs k (pos 0)) i (range_with_len (i + 1) n))

pub total-by_place : (xs : List ℤ) (n : ℕ) → length xs ≡ n
    → total (λ x. x) xs ≡ total (λ k. get_or xs k (pos 0)) (range_with_len 0 n)
total-by_place xs n long = total-drop xs n 0 (omega arith)

-- a sum of no less is no less
pub total-le : (f g : ℕ → ℤ) (first n : ℕ) → ((j : ℕ) → first ≤ j → j < first + n → f j ≤ℤ g j)
    → total f (range_with_len first n) ≤ℤ total g (range_with_len first n)
total-le f g first zero each = omega (arith, ints, total-nil f, total-nil g)
total-le f g first (suc n) each =
    let here = each first (omega arith) (omega arith) in
    let rest = total-le f g (first + 1) n (λ j low high. each j (omega arith) (omega arith)) in
    omega (arith, ints, total-cons f first (range_with_len (first + 1) n), total-cons g first (range_with_len (first + 1) n), here, rest)

-- and none of it is further above than the whole
pub total-gap : (f g : ℕ → ℤ) (first n k : ℕ) → ((j : ℕ) → first ≤ j → j < first + n → f j ≤ℤ g j) → first ≤ k
    → k < first + n → (g k -ℤ f k) ≤ℤ (total g (range_with_len first n) -ℤ total f (range_with_len first n))
total-gap f g first zero k each low high = absurd (omega arith)
total-gap f g first (suc n) k each low high =
    let left = total-cons f first (range_with_len (first + 1) n) in
    let right = total-cons g first (range_with_len (first + 1) n) in
    let here = each first (omega arith) (omega arith) in
    let later : (j : ℕ) → first + 1 ≤ j → j < first + 1 + n → f j ≤ℤ g j =
    λ j low' high'. each j (omega arith) (omega arith) in
    elim (cases_eq k first) [
      | inl same ↦ omega (arith, ints, left, right, ap f same, ap g same, total-le f g (first + 1) n later)
      | inr other ↦ omega (arith, ints, left, right, here, total-gap f g (first + 1) n k later (omega arith) (omega arith))
    ]
