-- What becomes of the sets in a list where a walk's next person is given a line.
use Rattle.std.proofs.Common.{◌≡◌, ℕ, ◌+◌, ◌<◌, ◌⊎◌, eqb, eq-eqb, List, length, get_or, sym, ap, ◌∙◌, subst, inl, inr, arith}
use Rattle.std.specs.Prelude.{All}
use Rattle.std.proofs.lemmas.Bool.{cases_Bool, cases_lt, ne_eqb}
use Rattle.std.proofs.lemmas.List.Elements.{All-from_get_or}
use Rattle.roster_model.specs.Problem.{Problem}
use Rattle.roster_model.specs.Rules.{is_among, IsLegal}
use Rattle.roster_model.specs.Places.{set_of, open_number}
use Rattle.roster_model.specs.Lines.{IsLine}
use Rattle.roster_model.proofs.PlacesParts.{same_set_of, set_of_is}
use Rattle.roster_model.proofs.SetLemmas.{All-is_among, Ascends-from_rising}
use Rattle.roster_problem.proofs.PutLemmas.{Throughout, put_elsewhere, put_there}
use Rattle.roster_problem.specs.Placing.{IsPut}
use Rattle.roster_test_reference.specs.Walk.{IsWalkedTo}

-- a line whose places are open is given to the next person
pub record GivesLine (problem : Problem) (k : ℕ) (set places given : List ℕ) : Type 0 where
  pub person : k < length problem.persons
  pub walked : IsWalkedTo problem k places
  pub line : IsLine problem k set
  pub free : Throughout (open_number problem) set places
  pub put : IsPut k set places given

-- a list that is the walk's list again is given the line
pub given_again : (problem : Problem) (k nobody : ℕ) (set places now given : List ℕ) → now ≡ places
    → nobody ≡ open_number problem → k < length problem.persons → IsWalkedTo problem k places
    → IsLine problem k set → Throughout nobody set now → IsPut k set now given
    → GivesLine problem k set places given
given_again problem k nobody set places now given same number person walked line free put = record {
  person = person;
  walked = walked;
  line = line;
  free = subst (λ n. Throughout n set places) number (subst (Throughout nobody set) same free);
  put = subst (λ xs. IsPut k set xs given) same put;
}

no_number_yet : (problem : Problem) (k p : ℕ) (places : List ℕ) → IsWalkedTo problem k places
    → k < length problem.persons → p < length places → get_or places p 0 ≡ k → ⊥
no_number_yet problem k p places walked person inside number =
    elim (walked.numbers p 0 inside) [ inl before ↦ omega (arith, number) | inr nobody ↦ omega (arith, number, nobody) ]

-- they have it,
pub given_set : (problem : Problem) (k : ℕ) (set places given : List ℕ) → GivesLine problem k set places given
    → set_of k given ≡ set
given_set problem k set places given gives =
    let put = gives.put in
    let long = put.covers in
    let whole : length problem.pairings ≡ length given = sym (long ∙ gives.walked.covers) in
    set_of_is k given set (Ascends-from_rising set gives.line.ascending)
    (subst (λ n. All (λ p. p < n) set) whole gives.line.places)
    (λ p inside. elim (cases_Bool (is_among set p)) [
      | inl member ↦ eq-eqb (get_or given p 0) k (put_there k set places given p put (omega arith) member) ∙ sym member
      | inr other ↦
          let number = put_elsewhere k set places given p put (omega arith) other in
          ne_eqb (get_or given p 0) k (λ e. no_number_yet problem k p places gives.walked gives.person (omega arith) (sym number ∙ e)) ∙ sym other
    ])

-- and those before them have what they had
pub kept_set : (problem : Problem) (k j : ℕ) (set places given : List ℕ)
    → GivesLine problem k set places given → j < k → set_of j given ≡ set_of j places
kept_set problem k j set places given gives before =
    let put = gives.put in
    let long = put.covers in
    let person = gives.person in
    same_set_of j given places long (λ p inside. elim (cases_Bool (is_among set p)) [
      | inl member ↦
          let now = put_there k set places given p put (omega arith) member in
          let was = All-is_among (λ q. get_or places q 0 ≡ open_number problem) set p gives.free member in
          ne_eqb (get_or given p 0) j (λ e. omega (arith, now))
          ∙ sym (ne_eqb (get_or places p 0) j (λ e. omega (arith, was)))
      | inr other ↦ ap (λ x. eqb x j) (put_elsewhere k set places given p put (omega arith) other)
    ])

number_given : (problem : Problem) (k : ℕ) (set places given : List ℕ) → GivesLine problem k set places given
    → (p : ℕ) → p < length given → (get_or given p 0 < k + 1) ⊎ (get_or given p 0 ≡ open_number problem)
number_given problem k set places given gives p inside =
    let long = gives.put.covers in
    elim (cases_Bool (is_among set p)) [
      | inl member ↦ let now = put_there k set places given p gives.put (omega arith) member in inl (omega (arith, now))
      | inr other ↦
          let same = put_elsewhere k set places given p gives.put (omega arith) other in
          elim (gives.walked.numbers p 0 (omega arith)) [ inl before ↦ inl (omega (arith, same)) | inr nobody ↦ inr (same ∙ nobody) ]
    ]

pub walked_on : (problem : Problem) (k : ℕ) (set places given : List ℕ) → GivesLine problem k set places given
    → IsWalkedTo problem (k + 1) given
walked_on problem k set places given gives = record {
  covers = gives.put.covers ∙ gives.walked.covers;
  numbers =
      All-from_get_or (λ x. (x < k + 1) ⊎ (x ≡ open_number problem)) given 0
      (number_given problem k set places given gives);
  legal = λ j below. elim (cases_lt j k) [
    | inl before ↦ subst (IsLegal problem j) (sym (kept_set problem k j set places given gives before)) (gives.walked.legal j before)
    | inr on ↦
        let here : k ≡ j = omega arith in
        subst (λ n. IsLegal problem n (set_of n given)) here
        (subst (IsLegal problem k) (sym (given_set problem k set places given gives)) gives.line.legal)
  ];
}
