-- Lists from a place on.
use Rattle.std.proofs.Common.{◌≡◌, ℕ, zero, suc, ◌+◌, List, [], ◌∷◌, drop, Some, ap, ◌∙◌, arith, rules}
use Rattle.std.specs.Prelude.{slice_get}

drop_from : {X : Type 0} (xs : List X) (i : ℕ) (x : X) → slice_get xs i ≡ Some x
    → drop i xs ≡ x ∷ drop (suc i) xs
drop_from [] i x there = absurd (search rules)
drop_from (y ∷ xs) zero x there = let same : y ≡ x = cc (there) in ap (λ z. z ∷ xs) same
drop_from (y ∷ xs) (suc i) x there =
    let rest : drop i xs ≡ x ∷ drop (suc i) xs = drop_from xs i x there in
    rest

-- what there is from a place on begins with the element there
pub drop_at : {X : Type 0} (xs : List X) (i : ℕ) (x : X) → slice_get xs i ≡ Some x
    → drop i xs ≡ x ∷ drop (i + 1) xs
drop_at xs i x there =
    let next : suc i ≡ i + 1 = omega arith in
    drop_from xs i x there ∙ ap (λ n. x ∷ drop n xs) next
