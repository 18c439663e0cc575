-- Lists of places are in a total order, compared from the front.
use Rattle.std.proofs.Common.{◌≡◌, ℕ, ◌<◌, ◌≤◌, true, false, ltb, eqb, eq-eqb, ◌⊎◌, List, [], ◌∷◌, ◌++◌, refl, sym, ap, ap₂, ◌∙◌, inl, inr, arith}
use Rattle.std.proofs.lemmas.Bool.{false≢true, both_ways, ltb-true, lt-ltb, le-ltb, eqb-true, or_cases, or_left, or_right, and_parts, and_from, cases_order, cases_lt, false_from_ne_true}
use Rattle.std.proofs.lemmas.List.{append-nil}
use Rattle.roster_model.specs.Places.{places_le}

-- ---- a total order

heads : (x y : ℕ) (xs ys : List ℕ) → places_le (x ∷ xs) (y ∷ ys) ≡ true
    → (x < y) ⊎ ((x ≡ y) × (places_le xs ys ≡ true))
heads x y xs ys h =
    elim (or_cases (ltb x y) _ h) [
      | inl less ↦ inl (ltb-true x y less)
      | inr same ↦ let parts = and_parts (eqb x y) _ same in inr (eqb-true x y parts.0, parts.1)
    ]

pub by_less : (x y : ℕ) (xs ys : List ℕ) → x < y → places_le (x ∷ xs) (y ∷ ys) ≡ true
by_less x y xs ys h = or_left (ltb x y) _ (lt-ltb x y h)

by_rest : (x y : ℕ) (xs ys : List ℕ) → x ≡ y → places_le xs ys ≡ true → places_le (x ∷ xs) (y ∷ ys) ≡ true
by_rest x y xs ys e h = or_right (ltb x y) _ (and_from _ _ (eq-eqb x y e) h)

before-rest : (x y : ℕ) (xs ys : List ℕ) → x ≡ y → places_le (x ∷ xs) (y ∷ ys) ≡ false
    → places_le xs ys ≡ false
before-rest x y xs ys same before = false_from_ne_true _ (λ h. both_ways _ before (by_rest x y xs ys same h))

pub places_le-refl : (xs : List ℕ) → places_le xs xs ≡ true
places_le-refl [] = refl
places_le-refl (x ∷ xs) = by_rest x x xs xs refl (places_le-refl xs)

pub places_le-trans : (xs ys zs : List ℕ) → places_le xs ys ≡ true → places_le ys zs ≡ true
    → places_le xs zs ≡ true
places_le-trans [] ys zs h g = refl
places_le-trans (x ∷ xs) [] zs h g = absurd (false≢true h)
places_le-trans (x ∷ xs) (y ∷ ys) [] h g = absurd (false≢true g)
places_le-trans (x ∷ xs) (y ∷ ys) (z ∷ zs) h g =
    elim (heads x y xs ys h) [
      | inl less ↦ by_less x z xs zs (elim (heads y z ys zs g) [ inl more ↦ omega arith | inr same ↦ omega (arith, same.0) ])
      | inr same ↦ elim (heads y z ys zs g) [
        | inl more ↦ by_less x z xs zs (omega (arith, same.0))
        | inr also ↦ by_rest x z xs zs (same.0 ∙ also.0) (places_le-trans xs ys zs same.1 also.1)
      ]
    ]

pub places_le-antisym : (xs ys : List ℕ) → places_le xs ys ≡ true → places_le ys xs ≡ true → xs ≡ ys
places_le-antisym [] [] h g = refl
places_le-antisym [] (y ∷ ys) h g = absurd (false≢true g)
places_le-antisym (x ∷ xs) [] h g = absurd (false≢true h)
places_le-antisym (x ∷ xs) (y ∷ ys) h g =
    elim (heads x y xs ys h) [
      | inl less ↦ absurd (elim (heads y x ys xs g) [ inl more ↦ omega arith | inr same ↦ omega (arith, same.0) ])
      | inr same ↦ elim (heads y x ys xs g) [
        | inl more ↦ absurd (omega (arith, same.0))
        | inr also ↦ ap₂ (λ a rest. a ∷ rest) same.0 (places_le-antisym xs ys same.1 also.1)
      ]
    ]

pub places_le-total : (xs ys : List ℕ) → (places_le xs ys ≡ true) ⊎ (places_le ys xs ≡ true)
places_le-total [] ys = inl refl
places_le-total (x ∷ xs) [] = inr refl
places_le-total (x ∷ xs) (y ∷ ys) =
    elim (cases_order x y) [
      | inl same ↦ elim (places_le-total xs ys) [
        | inl h ↦ inl (by_rest x y xs ys same h)
        | inr h ↦ inr (by_rest y x ys xs (sym same) h)
      ]
      | inr apart ↦ elim apart [
        | inl less ↦ inl (by_less x y xs ys less)
        | inr more ↦ inr (by_less y x ys xs more)
      ]
    ]

-- ---- before: not at or behind

pub at_most_from_before : (xs ys : List ℕ) → places_le ys xs ≡ false → places_le xs ys ≡ true
at_most_from_before xs ys before =
    elim (places_le-total xs ys) [ inl h ↦ h | inr h ↦ absurd (both_ways _ before h) ]

pub before-trans_left : (xs ys zs : List ℕ) → places_le xs ys ≡ true → places_le zs ys ≡ false
    → places_le zs xs ≡ false
before-trans_left xs ys zs first second =
    false_from_ne_true _ (λ h. both_ways _ second (places_le-trans zs xs ys h first))

pub before-trans_right : (xs ys zs : List ℕ) → places_le ys xs ≡ false → places_le ys zs ≡ true
    → places_le zs xs ≡ false
before-trans_right xs ys zs first second =
    false_from_ne_true _ (λ h. both_ways _ first (places_le-trans ys zs xs second h))

-- ---- behind a common front

pub places_le-append : (front xs ys : List ℕ) → places_le (front ++ xs) (front ++ ys) ≡ places_le xs ys
places_le-append [] xs ys = refl
places_le-append (x ∷ front) xs ys =
    rw (le-ltb x x (omega arith), eq-eqb x x refl) (places_le-append front xs ys)

pub front_at_most : (front rest : List ℕ) → places_le front (front ++ rest) ≡ true
front_at_most front rest =
    ap (λ xs. places_le xs (front ++ rest)) (sym (append-nil front)) ∙ places_le-append front [] rest

pub front_before : (front : List ℕ) (p : ℕ) (rest : List ℕ) → places_le (front ++ p ∷ rest) front ≡ false
front_before front p rest =
    ap (places_le (front ++ p ∷ rest)) (sym (append-nil front)) ∙ places_le-append front (p ∷ rest) []

single_at_most : (p q : ℕ) (rest : List ℕ) → p ≤ q → places_le (p ∷ []) (q ∷ rest) ≡ true
single_at_most p q rest l =
    elim (cases_lt p q) [
      | inl less ↦ by_less p q [] rest less
      | inr same ↦ by_rest p q [] rest (omega arith) refl
    ]

pub first_at_most : (p q : ℕ) (rest : List ℕ) → places_le (p ∷ []) (q ∷ rest) ≡ true → p ≤ q
first_at_most p q rest h = elim (heads p q [] rest h) [ inl less ↦ omega arith | inr same ↦ omega (arith, same.0) ]

pub marks_at_most : (front : List ℕ) (p q : ℕ) (rest : List ℕ) → p ≤ q
    → places_le (front ++ p ∷ []) (front ++ q ∷ rest) ≡ true
marks_at_most front p q rest l = places_le-append front (p ∷ []) (q ∷ rest) ∙ single_at_most p q rest l

-- what isn't before one mark and is before another goes on between them
pub between_marks : (front : List ℕ) (a b : ℕ) (xs : List ℕ) → places_le (front ++ a ∷ []) xs ≡ true
    → places_le (front ++ b ∷ []) xs ≡ false
    → (p : ℕ) × (rest : List ℕ) × (xs ≡ front ++ p ∷ rest) × (a ≤ p) × (p < b)
between_marks [] a b [] on before = absurd (false≢true on)
between_marks [] a b (p ∷ rest) on before =
    let most : p < b = elim (cases_lt p b) [ inl less ↦ less | inr more ↦ absurd (both_ways _ before (single_at_most b p rest more)) ] in
    (p, rest, refl, first_at_most a p rest on, most)
between_marks (x ∷ front) a b [] on before = absurd (false≢true on)
between_marks (x ∷ front) a b (y ∷ xs) on before =
    elim (heads x y (front ++ a ∷ []) xs on) [
      | inl less ↦ absurd (both_ways _ before (by_less x y (front ++ b ∷ []) xs less))
      | inr same ↦
          let later = before-rest x y (front ++ b ∷ []) xs same.0 before in
          let found = between_marks front a b xs same.1 later in
          (found.0, found.1, ap₂ (λ p rest. p ∷ rest) (sym same.0) found.2, found.3, found.4)
    ]

-- nothing stands between a list and the same with the least place behind it
pub nothing_between : (front xs : List ℕ) → places_le front xs ≡ true → places_le (front ++ 0 ∷ []) xs ≡ false
    → xs ≡ front
nothing_between [] [] on before = refl
nothing_between [] (y ∷ xs) on before = absurd (both_ways _ before (single_at_most 0 y xs (omega arith)))
nothing_between (x ∷ front) [] on before = absurd (false≢true on)
nothing_between (x ∷ front) (y ∷ xs) on before =
    elim (heads x y front xs on) [
      | inl less ↦ absurd (both_ways _ before (by_less x y (front ++ 0 ∷ []) xs less))
      | inr same ↦ ap₂ (λ p rest. p ∷ rest) (sym same.0) (nothing_between front xs same.1 (before-rest x y (front ++ 0 ∷ []) xs same.0 before))
    ]
