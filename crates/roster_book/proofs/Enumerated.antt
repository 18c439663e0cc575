-- The first of numbered elements whose number passes a test.
use Rattle.std.proofs.Common.{◌≡◌, ℕ, zero, suc, ◌+◌, ◌<◌, Bool, true, false, not, List, [], ◌∷◌, length, get_or, Option, Some, None, refl, sym, ◌∙◌, ap, subst, arith}
use Rattle.std.specs.List.{find, enumerate_from}

abbrev first_without : {X : Type 0} → (ℕ → Bool) → ℕ → List X → Option (ℕ × X)
first_without {X} has n xs = find (λ (entry : ℕ × X). not (has entry.0)) (enumerate_from n xs)

none_from : {X : Type 0} (has : ℕ → Bool) (n : ℕ) (xs : List X)
    → ((k : ℕ) → k < length xs → has (n + k) ≡ true) → first_without has n xs ≡ None
none_from has n [] h = refl
none_from has n (x ∷ xs) h =
    let here : has n ≡ true = subst (λ m. has m ≡ true) (omega arith) (h 0 (omega arith)) in
    rw here
    (none_from has (n + 1) xs (λ k l. subst (λ m. has m ≡ true) (omega arith) (h (suc k) (omega arith))))

some_from : {X : Type 0} (has : ℕ → Bool) (n : ℕ) (xs : List X) (i : ℕ) (x : X) → i < length xs
    → x ≡ get_or xs i x → ((k : ℕ) → k < i → has (n + k) ≡ true) → has (n + i) ≡ false
    → first_without has n xs ≡ Some (n + i, x)
some_from has n [] i x l e h f = absurd (omega arith)
some_from has n (y ∷ xs) zero x l e h f =
    let here : has n ≡ false = subst (λ m. has m ≡ false) (omega arith) f in
    let number : n ≡ n + 0 = omega arith in
    let same : y ≡ x = sym e in
    rw here (ap (λ m. Some (m, y)) number ∙ ap (λ z. Some (n + 0, z)) same)
some_from has n (y ∷ xs) (suc i) x l e h f =
    let here : has n ≡ true = subst (λ m. has m ≡ true) (omega arith) (h 0 (omega arith)) in
    let number : n + 1 + i ≡ n + suc i = omega arith in
    let rest =
    some_from has (n + 1) xs i x (omega arith) e
    (λ k m. subst (λ j. has j ≡ true) (omega arith) (h (suc k) (omega arith)))
    (subst (λ j. has j ≡ false) (omega arith) f) in
    rw here (rest ∙ ap (λ m. Some (m, x)) number)

pub none_without : {X : Type 0} (has : ℕ → Bool) (xs : List X) → ((k : ℕ) → k < length xs → has k ≡ true)
    → first_without has 0 xs ≡ None
none_without has xs h = none_from has 0 xs (λ k l. subst (λ j. has j ≡ true) (omega arith) (h k l))

pub first_without_is : {X : Type 0} (has : ℕ → Bool) (xs : List X) (i : ℕ) (x : X) → i < length xs
    → x ≡ get_or xs i x → ((k : ℕ) → k < i → has k ≡ true) → has i ≡ false
    → first_without has 0 xs ≡ Some (i, x)
first_without_is has xs i x l e h f =
    let number : 0 + i ≡ i = omega arith in
    some_from has 0 xs i x l e (λ k m. subst (λ j. has j ≡ true) (omega arith) (h k m)) (subst (λ j. has j ≡ false) (sym number) f) ∙ ap (λ m. Some (m, x)) number
