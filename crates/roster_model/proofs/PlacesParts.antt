-- A list of places is known by the sets of its numbers.
use Rattle.std.proofs.Common.{◌≡◌, ℕ, ◌<◌, ◌≤◌, true, false, eqb, eq-eqb, List, length, get_or, refl, sym, ◌∙◌, subst, inl, inr, arith}
use Rattle.std.specs.Prelude.{All}
use Rattle.std.proofs.lemmas.Bool.{cases_Bool, cases_lt, eqb-true}
use Rattle.std.proofs.lemmas.List.{ext_get_or}
use Rattle.roster_model.specs.Rules.{is_among}
use Rattle.roster_model.specs.Places.{set_of}
use Rattle.roster_model.proofs.PlacesLemmas.{is_among-set_of_at, is_among-set_of_past}
use Rattle.roster_model.proofs.SetLemmas.{Ascends, Ascends-set_of, All-is_among, places_of_number, same_set}

-- ---- the number at a place

-- a place is in the set of its number,
pub in_set_of_number : (k p : ℕ) (places : List ℕ) → p < length places → get_or places p 0 ≡ k
    → is_among (set_of k places) p ≡ true
in_set_of_number k p places inside number =
    is_among-set_of_at k p places 0 inside ∙ eq-eqb (get_or places p 0) k number

-- and in that of no other
pub number_from_set_of : (k p : ℕ) (places : List ℕ) → p < length places → is_among (set_of k places) p ≡ true
    → get_or places p 0 ≡ k
number_from_set_of k p places inside member =
    eqb-true (get_or places p 0) k (sym (is_among-set_of_at k p places 0 inside) ∙ member)

-- if a number has the same set in two lists, it stands at the same places
pub same_number : (k p : ℕ) (xs ys : List ℕ) → length xs ≡ length ys → p < length xs
    → set_of k xs ≡ set_of k ys → get_or xs p 0 ≡ k → get_or ys p 0 ≡ k
same_number k p xs ys long inside same number =
    number_from_set_of k p ys (omega (arith, long))
    (subst (λ set. is_among set p ≡ true) same (in_set_of_number k p xs inside number))

-- two lists of numbers up to n are one where the numbers below n have the same sets
pub same_places : (n : ℕ) (xs ys : List ℕ) → length xs ≡ length ys → All (λ x. x ≤ n) xs → All (λ y. y ≤ n) ys
    → ((k : ℕ) → k < n → set_of k xs ≡ set_of k ys) → xs ≡ ys
same_places n xs ys long xs_most ys_most same =
    ext_get_or 0 xs ys long (λ p inside.
    let x_most = xs_most p 0 inside in
    let y_most = ys_most p 0 (omega (arith, long)) in
    elim (cases_lt (get_or xs p 0) n) [
      | inl less ↦ sym (same_number (get_or xs p 0) p xs ys long inside (same (get_or xs p 0) less) refl)
      | inr most ↦ elim (cases_lt (get_or ys p 0) n) [
        | inl less ↦ same_number (get_or ys p 0) p ys xs (sym long) (omega (arith, long)) (sym (same (get_or ys p 0) less)) refl
        | inr also ↦ omega arith
      ]
    ])

-- ---- the set of a number

not_past : (set : List ℕ) (n p : ℕ) → All (λ q. q < n) set → n ≤ p → is_among set p ≡ false
not_past set n p within past =
    elim (cases_Bool (is_among set p)) [
      | inl member ↦ let less = All-is_among (λ q. q < n) set p within member in absurd (omega arith)
      | inr none ↦ none
    ]

-- it is the one with just the places at which the list has the number
pub set_of_is : (k : ℕ) (places set : List ℕ) → Ascends set → All (λ p. p < length places) set
    → ((p : ℕ) → p < length places → eqb (get_or places p 0) k ≡ is_among set p) → set_of k places ≡ set
set_of_is k places set up within each =
    same_set (set_of k places) set (Ascends-set_of k places) up (λ p. elim (cases_lt p (length places)) [
      | inl inside ↦ is_among-set_of_at k p places 0 inside ∙ each p inside
      | inr past ↦ is_among-set_of_past k p places past ∙ sym (not_past set (length places) p within past)
    ])

-- and the same in two lists where the number stands at the same places
pub same_set_of : (k : ℕ) (xs ys : List ℕ) → length xs ≡ length ys
    → ((p : ℕ) → p < length xs → eqb (get_or xs p 0) k ≡ eqb (get_or ys p 0) k) → set_of k xs ≡ set_of k ys
same_set_of k xs ys long each =
    set_of_is k xs (set_of k ys) (Ascends-set_of k ys)
    (subst (λ n. All (λ p. p < n) (set_of k ys)) (sym long) (places_of_number k ys))
    (λ p inside. each p inside ∙ sym (is_among-set_of_at k p ys 0 (omega (arith, long))))
