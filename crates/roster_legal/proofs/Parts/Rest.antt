-- The rest rule over a part of a duty list.
use Rattle.std.proofs.Common.{◌≡◌, ℕ, suc, zero, ◌+◌, ◌-◌, ◌<◌, ◌≤◌, Bool, true, false, ◌||◌, List, [], ◌∷◌, Some, refl, sym, subst, inl, inr, arith}
use Rattle.std.specs.Prelude.{All, filter, slice_get, max}
use Rattle.std.proofs.lemmas.Bool.{cases_Bool, or_left, or_right, cond-true, cond-false}
use Rattle.std.proofs.lemmas.List.Elements.{All-head, All-tail}
use Rattle.std.proofs.lemmas.Option.{none-some, same_Some}
use Rattle.roster_model.specs.records.Base.{Base}
use Rattle.roster_model.specs.records.Duty.{Duty}
use Rattle.roster_model.specs.Rules.Rest.{IsRested, KeepsRest, is_of_pairing, least_rest}
use Rattle.roster_problem.specs.Duties.{AreTimed}

abbrev pub RestLies : Base → Duty → Duty → Type 0
RestLies home a b = (is_of_pairing a.holder || is_of_pairing b.holder) ≡ true → IsRested home a b

-- rest lies between a and the first of the list
abbrev pub RestsFirst : Base → Duty → List Duty → Type 0
RestsFirst home a [] = Unit {0}
RestsFirst home a (b ∷ list) = RestLies home a b

abbrev pub Rests : Base → List Duty → Type 0
Rests home [] = Unit {0}
Rests home (a ∷ list) = RestsFirst home a list × Rests home list

tail_rests : (home : Base) (a : Duty) (list : List Duty) → KeepsRest home (a ∷ list) → KeepsRest home list
tail_rests home a list keeps i b c first second =
    let next : suc (i + 1) ≡ suc i + 1 = omega arith in
    keeps (suc i) b c first (subst (λ k. slice_get (a ∷ list) k ≡ Some c) next second)

first_rests : (home : Base) (a : Duty) (list : List Duty) → KeepsRest home (a ∷ list) → RestsFirst home a list
first_rests home a [] keeps = tt
first_rests home a (b ∷ list) keeps = keeps 0 a b refl refl

pub rests_from : (home : Base) (list : List Duty) → KeepsRest home list → Rests home list
rests_from home [] keeps = tt
rests_from home (a ∷ list) keeps =
    (first_rests home a list keeps, rests_from home list (tail_rests home a list keeps))

pub keeps_from : (home : Base) (list : List Duty) → Rests home list → KeepsRest home list
keeps_from home [] rests i a b first second = absurd (none-some a first)
keeps_from home (c ∷ []) rests zero a b first second = absurd (none-some b second)
keeps_from home (c ∷ d ∷ list) rests zero a b first second =
    subst (RestLies home a) (same_Some d b second)
    (subst (λ x. RestLies home x d) (same_Some c a first) rests.0)
keeps_from home (c ∷ list) rests (suc i) a b first second =
    let next : suc i + 1 ≡ suc (i + 1) = omega arith in
    keeps_from home list rests.1 i a b first (subst (λ k. slice_get (c ∷ list) k ≡ Some b) next second)

-- from a to c, past b
past : (a0 a1 b0 b1 c0 m n : ℕ) → b0 < b1 → a1 + max (a1 - a0) m ≤ b0 → b1 + max (b1 - b0) n ≤ c0
    → a1 + max (a1 - a0) n ≤ c0
past a0 a1 b0 b1 c0 m n timed first second = omega arith

rests_past : (home : Base) (a b : Duty) (list : List Duty) → is_of_pairing b.holder ≡ true
    → b.report < b.release → RestLies home a b → RestsFirst home b list → RestsFirst home a list
rests_past home a b [] held timed first second = tt
rests_past home a b (c ∷ list) held timed first second = λ _.
    past a.report a.release b.report b.release c.report (least_rest home b) (least_rest home c) timed
    (first (or_right (is_of_pairing a.holder) _ held)) (second (or_left _ (is_of_pairing c.holder) held))

-- what is left out belongs to pairings
abbrev pub LeavesPairings : (Duty → Bool) → List Duty → Type 0
LeavesPairings test list = All (λ duty. test duty ≡ false → is_of_pairing duty.holder ≡ true) list

first_kept : (home : Base) (test : Duty → Bool) (a : Duty) (list : List Duty) → LeavesPairings test list
    → AreTimed list → RestsFirst home a list → Rests home list → RestsFirst home a (filter test list)
first_kept home test a [] leaves timed first rests = tt
first_kept home test a (b ∷ list) leaves timed first rests =
    let later = All-tail (λ duty. test duty ≡ false → is_of_pairing duty.holder ≡ true) b list leaves in
    let ends = All-tail (λ d. d.report < d.release) b list timed in
    elim (cases_Bool (test b)) [
      | inl kept ↦ subst (RestsFirst home a) (sym (cond-true (test b) (b ∷ filter test list) (filter test list) kept)) first
      | inr left ↦
          let held =
          All-head (λ duty. test duty ≡ false → is_of_pairing duty.holder ≡ true) b list leaves left in
          let over =
          rests_past home a b list held
          (All-head (λ d. d.report < d.release) b list timed) first rests.0 in
          subst (RestsFirst home a) (sym (cond-false (test b) (b ∷ filter test list) (filter test list) left))
          (first_kept home test a list later ends over rests.1)
    ]

rests_kept : (home : Base) (test : Duty → Bool) (list : List Duty) → LeavesPairings test list → AreTimed list
    → Rests home list → Rests home (filter test list)
rests_kept home test [] leaves timed rests = tt
rests_kept home test (b ∷ list) leaves timed rests =
    let later = All-tail (λ duty. test duty ≡ false → is_of_pairing duty.holder ≡ true) b list leaves in
    let ends = All-tail (λ d. d.report < d.release) b list timed in
    let rest = rests_kept home test list later ends rests.1 in
    elim (cases_Bool (test b)) [
      | inl kept ↦ subst (Rests home) (sym (cond-true (test b) (b ∷ filter test list) (filter test list) kept)) (first_kept home test b list later ends rests.0 rests.1, rest)
      | inr left ↦ subst (Rests home) (sym (cond-false (test b) (b ∷ filter test list) (filter test list) left)) rest
    ]

pub KeepsRest-filter : (home : Base) (test : Duty → Bool) (list : List Duty) → LeavesPairings test list
    → AreTimed list → KeepsRest home list → KeepsRest home (filter test list)
KeepsRest-filter home test list leaves timed keeps =
    keeps_from home (filter test list) (rests_kept home test list leaves timed (rests_from home list keeps))
