-- A legal roster in which one person gets another legal set. One step of a run gives a person a set that was
-- judged: who had any of it has a part of a legal set, which is legal, and so has the person beside it. So
-- each order of steps keeps legality, and nothing else is proved of the moves.
use Rattle.std.proofs.Common.{◌≡◌, ℕ, ◌<◌, ◌≤◌, true, false, cond, List, length, get_or, sym, ap, ◌∙◌, subst, inl, inr, arith}
use Rattle.std.specs.Prelude.{All}
use Rattle.std.specs.List.Sorted.{IsStrictlyIncreasing}
use Rattle.std.proofs.lemmas.Bool.{cases_Bool, cases_eq, cases_lt, eq-eqb, ne_eqb, false≢true}
use Rattle.std.proofs.lemmas.List.{get_or_default}
use Rattle.roster_model.specs.Problem.{Problem}
use Rattle.roster_model.specs.Places.{set_of, open_number}
use Rattle.roster_model.specs.Rules.{is_among, IsLegal}
use Rattle.roster_model.specs.Rosters.{IsLegalRoster}
use Rattle.roster_model.proofs.PlacesLemmas.{is_among-set_of_at, is_among-set_of_past}
use Rattle.roster_model.proofs.PlacesParts.{in_set_of_number, number_from_set_of, set_of_is}
use Rattle.roster_model.proofs.SetLemmas.{Ascends-from_rising}
use Rattle.roster_problem.specs.Placing.{IsPut}

-- what a number becomes at a place
there : (number : ℕ) (set old new : List ℕ) (p : ℕ) → IsPut number set old new → p < length old
    → is_among set p ≡ true → get_or new p 0 ≡ number
there number set old new p put inside member =
    put.each p inside ∙ ap (λ b. cond b number (get_or old p 0)) member

elsewhere : (number : ℕ) (set old new : List ℕ) (p : ℕ) → IsPut number set old new → p < length old
    → is_among set p ≡ false → get_or new p 0 ≡ get_or old p 0
elsewhere number set old new p put inside other =
    put.each p inside ∙ ap (λ b. cond b number (get_or old p 0)) other

-- person k has the set and nothing else: the rest of what k had is open
record IsAnew (n k : ℕ) (set old new : List ℕ) : Type 0 where
  covers : length new ≡ length old
  given : (p : ℕ) → p < length old → is_among set p ≡ true → get_or new p 0 ≡ k
  opened : (p : ℕ) → p < length old → is_among set p ≡ false → get_or old p 0 ≡ k → get_or new p 0 ≡ n
  same : (p : ℕ) → p < length old → is_among set p ≡ false → (get_or old p 0 ≡ k → ⊥)
      → get_or new p 0 ≡ get_or old p 0

not_had : (k p : ℕ) (old : List ℕ) → p < length old → (get_or old p 0 ≡ k → ⊥)
    → is_among (set_of k old) p ≡ false
not_had k p old inside other = is_among-set_of_at k p old 0 inside ∙ ne_eqb (get_or old p 0) k other

anew : (n k : ℕ) (set old mid new : List ℕ) → IsPut n (set_of k old) old mid → IsPut k set mid new
    → IsAnew n k set old new
anew n k set old mid new first second =
    let long = first.covers in
    let longer = second.covers in
    record {
      covers = longer ∙ long;
      given = λ p inside member. there k set mid new p second (omega arith) member;
      opened = λ p inside other had. elsewhere k set mid new p second (omega arith) other ∙ there n (set_of k old) old mid p first inside (in_set_of_number k p old inside had);
      same = λ p inside other free. elsewhere k set mid new p second (omega arith) other ∙ elsewhere n (set_of k old) old mid p first inside (not_had k p old inside free);
    }

-- each number is that of a person or of nobody
all_numbers : (n k : ℕ) (set old new : List ℕ) → IsAnew n k set old new → k < n → All (λ x. x ≤ n) old
    → (p : ℕ) → p < length old → get_or new p 0 ≤ n
all_numbers n k set old new is person most p inside =
    elim (cases_Bool (is_among set p)) [
      | inl member ↦ let e = is.given p inside member in omega arith
      | inr other ↦ elim (cases_eq (get_or old p 0) k) [
        | inl had ↦ let e = is.opened p inside other had in omega arith
        | inr free ↦ let e = is.same p inside other free in let m = most p 0 inside in omega arith
      ]
    ]

-- the person has the set
set_of_person : (n k : ℕ) (set old new : List ℕ) → IsAnew n k set old new → k < n → IsStrictlyIncreasing set
    → All (λ p. p < length old) set → set_of k new ≡ set
set_of_person n k set old new is person rising within =
    set_of_is k new set (Ascends-from_rising set rising)
    (λ i d h. let w = within i d h in let long = is.covers in omega arith) (λ p inside.
    let long = is.covers in
    let before : p < length old = omega arith in
    elim (cases_Bool (is_among set p)) [
      | inl member ↦ eq-eqb (get_or new p 0) k (is.given p before member) ∙ sym member
      | inr other ↦ elim (cases_eq (get_or old p 0) k) [
        | inl had ↦ ne_eqb (get_or new p 0) k (λ e. let o = is.opened p before other had in omega arith) ∙ sym other
        | inr free ↦ ne_eqb (get_or new p 0) k (λ e. free (sym (is.same p before other free) ∙ e)) ∙ sym other
      ]
    ])

-- who else has something had it before
set_of_other : (n k j : ℕ) (set old new : List ℕ) → IsAnew n k set old new → j < n → (j ≡ k → ⊥) → (p : ℕ)
    → is_among (set_of j new) p ≡ true → is_among (set_of j old) p ≡ true
set_of_other n k j set old new is person differs p member =
    elim (cases_lt p (length old)) [
      | inl inside ↦
          let long = is.covers in
          let number = number_from_set_of j p new (omega arith) member in
          elim (cases_Bool (is_among set p)) [
            | inl given ↦ absurd (differs (sym number ∙ is.given p inside given))
            | inr other ↦ elim (cases_eq (get_or old p 0) k) [
              | inl had ↦ let o = is.opened p inside other had in absurd (omega arith)
              | inr free ↦ in_set_of_number j p old inside (sym (is.same p inside other free) ∙ number)
            ]
          ]
      | inr past ↦ let long = is.covers in absurd (false≢true (sym (is_among-set_of_past j p new (omega arith)) ∙ member))
    ]

pub reassigned : (problem : Problem) (k : ℕ) (set old mid new : List ℕ)
    → ((j : ℕ) (all part : List ℕ) → ((p : ℕ) → is_among part p ≡ true → is_among all p ≡ true) → IsLegal problem j all → IsLegal problem j part)
    → IsLegalRoster problem old → k < length problem.persons → IsStrictlyIncreasing set
    → All (λ p. p < length problem.pairings) set → IsLegal problem k set
    → IsPut (open_number problem) (set_of k old) old mid → IsPut k set mid new → IsLegalRoster problem new
reassigned problem k set old mid new part roster person rising within legal first second =
    let n = length problem.persons in
    let is = anew n k set old mid new first second in
    let covers = roster.covers in
    let long = is.covers in
    let inside : All (λ p. p < length old) set = λ i d h. let w = within i d h in omega arith in
    record {
      covers = long ∙ covers;
      numbers = λ p d h. subst (λ x. x ≤ n) (sym (get_or_default new p d 0 h)) (all_numbers n k set old new is person roster.numbers p (omega arith));
      legal = λ j other. elim (cases_eq j k) [
        | inl same ↦ subst (λ i. IsLegal problem i (set_of i new)) (sym same) (subst (IsLegal problem k) (sym (set_of_person n k set old new is person rising inside)) legal)
        | inr differs ↦ part j (set_of j old) (set_of j new) (set_of_other n k j set old new is other differs) (roster.legal j other)
      ];
    }
