-- The duties of a part of a set, out of those of the set.
use Rattle.std.proofs.Common.{◌≡◌, ℕ, Bool, true, false, cond, List, [], ◌∷◌, refl, sym, ap, ◌∙◌, inl, inr}
use Rattle.std.specs.Prelude.{filter}
use Rattle.std.proofs.lemmas.Bool.{cases_Bool, cond-true, cond-false, both_ways, false_from_ne_true}
use Rattle.roster_model.specs.Problem.{Problem}
use Rattle.roster_model.specs.records.Duty.{Holder, OfPairing, OfPerson}
use Rattle.roster_model.specs.Rules.{duty_list, is_among, is_listed}

-- what passes p passes q
filter-filter : {X : Type 0} (p q : X → Bool) → ((x : X) → p x ≡ true → q x ≡ true) → (xs : List X)
    → filter p (filter q xs) ≡ filter p xs
filter-filter p q more [] = refl
filter-filter p q more (x ∷ xs) =
    elim (cases_Bool (q x)) [
      | inl in' ↦ ap (filter p) (cond-true (q x) (x ∷ filter q xs) (filter q xs) in') ∙ ap (λ ys. cond (p x) (x ∷ ys) ys) (filter-filter p q more xs)
      | inr out ↦
          let fails : p x ≡ false = false_from_ne_true (p x) (λ h. both_ways (q x) out (more x h)) in
          ap (filter p) (cond-false (q x) (x ∷ filter q xs) (filter q xs) out) ∙ filter-filter p q more xs
          ∙ sym (cond-false (p x) (x ∷ filter p xs) (filter p xs) fails)
    ]

abbrev pub IsPart : List ℕ → List ℕ → Type 0
IsPart part set = (p : ℕ) → is_among part p ≡ true → is_among set p ≡ true

is_listed-part : (k : ℕ) (set part : List ℕ) → IsPart part set → (holder : Holder)
    → is_listed k part holder ≡ true → is_listed k set holder ≡ true
is_listed-part k set part more (OfPairing p) h = more p h
is_listed-part k set part more (OfPerson j) h = h

pub shorter : (problem : Problem) (k : ℕ) (set part : List ℕ) → IsPart part set
    → filter (λ duty. is_listed k part duty.holder) (duty_list problem k set) ≡ duty_list problem k part
shorter problem k set part more =
    filter-filter (λ duty. is_listed k part duty.holder) (λ duty. is_listed k set duty.holder)
    (λ duty. is_listed-part k set part more duty.holder) problem.duties
