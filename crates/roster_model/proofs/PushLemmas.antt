-- Lists that grow: what is so of each of some elements at its place, and of one more.
use Rattle.std.proofs.Common.{◌≡◌, ℕ, ◌+◌, List, [], ◌∷◌, ◌++◌, length, get_or, Some, sym, ap, ◌∙◌, subst, inl, inr, arith}
use Rattle.std.specs.Prelude.{slice_get}
use Rattle.std.proofs.lemmas.Bool.{cases_lt}
use Rattle.std.proofs.lemmas.List.{get_or_append_left, get_or_push, length_push}
use Rattle.std.proofs.lemmas.Option.{get_or_from_slice_get, slice_get_within, slice_get-get_or}

pub each-push : {X : Type 0} (P : ℕ → X → Type 0) (xs : List X) (x : X)
    → ((i : ℕ) (y : X) → slice_get xs i ≡ Some y → P i y) → P (length xs) x → (i : ℕ) (y : X)
    → slice_get (xs ++ x ∷ []) i ≡ Some y → P i y
each-push P xs x each here i y at =
    let inside = slice_get_within (xs ++ x ∷ []) i y at in
    let is : get_or (xs ++ x ∷ []) i y ≡ y = get_or_from_slice_get (xs ++ x ∷ []) i y y at in
    elim (cases_lt i (length xs)) [
      | inl old ↦ each i y (slice_get-get_or xs i y old ∙ ap Some (sym (get_or_append_left xs (x ∷ []) y i old) ∙ is))
      | inr new ↦
          let last : length xs ≡ i = omega (arith, inside, length_push xs x) in
          let same : x ≡ y = sym (get_or_push xs x y i last) ∙ is in
          subst (P i) same (subst (λ n. P n x) last here)
    ]

-- the same of the list that a push makes, and how long it is
pub each-next : {X : Type 0} (P : ℕ → X → Type 0) (n : ℕ) (old new : List X) (x : X) → new ≡ old ++ x ∷ []
    → length old ≡ n → ((i : ℕ) (y : X) → slice_get old i ≡ Some y → P i y) → P n x
    → (length new ≡ n + 1) × ((i : ℕ) (y : X) → slice_get new i ≡ Some y → P i y)
each-next P n old new x pushed long each here = (
  ap length pushed ∙ length_push old x ∙ ap (λ k. k + 1) long,
  λ i y at. each-push P old x each (subst (λ k. P k x) (sym long) here) i y (ap (λ xs. slice_get xs i) (sym pushed) ∙ at),
)
