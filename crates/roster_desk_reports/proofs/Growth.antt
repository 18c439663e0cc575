-- How a roster grows, pairing by pairing and person by person.
use Rattle.std.proofs.Common.{◌≡◌, ℕ, ◌+◌, ◌<◌, List, Some, length, sym, ap, ◌∙◌, subst, inl, inr, arith, get_or}
use Rattle.std.specs.Prelude.{All, map, option_map, slice_get}
use Rattle.std.proofs.lemmas.Bool.{cases_eq}
use Rattle.std.proofs.lemmas.List.Elements.{All-get_or}
use Rattle.std.proofs.lemmas.Option.{get_or_from_slice_get, same_Some, slice_get-map, slice_get_within}
use Rattle.roster_model.specs.Problem.{Problem}
use Rattle.roster_desk_reports.specs.Given.{GivesPairing, Grows, HasFirst, HasGiven, HasNames, HasPairing, IsAmongNames, IsGivenFirst, IsPairing}
use Rattle.roster_desk_reports.specs.Text.{Given}

-- what is given first and what is given then are given
pub then_grows : (problem : Problem) (First Then Gives : ℕ → ℕ → Type 0) (old mid new : List ℕ)
    → ((p k : ℕ) → First p k → Gives p k) → ((p k : ℕ) → Then p k → Gives p k) → Grows problem First old mid
    → Grows problem Then mid new → Grows problem Gives old new
then_grows problem First Then Gives old mid new first_is then_is first then = record {
  covers = then.covers ∙ first.covers;
  numbers = then.numbers;
  keeps = λ p k few at. then.keeps p k few (first.keeps p k few at);
  only = λ p k few at. elim (then.only p k few at) [
    | inl before ↦ elim (first.only p k few before) [
      | inl had ↦ inl had
      | inr given ↦ inr (first_is p k given)
    ]
    | inr given ↦ inr (then_is p k given)
  ];
}

-- whose pairing it is keeps it
keeps_pairing : (problem : Problem) (Gives : ℕ → ℕ → Type 0) (old new : List ℕ) (k : ℕ) (name : List ℕ)
    → k < length problem.persons → Grows problem Gives old new → HasPairing problem old k name
    → HasPairing problem new k name
keeps_pairing problem Gives old new k name few grows has = (has.0, has.1, grows.keeps has.0 k few has.2)

-- ---- names

-- what a roster has when the first names are put
pub record AreNamesPut (problem : Problem) (number : ℕ) (names : List (List ℕ)) (count : ℕ)
    (old new : List ℕ) : Type 0 where
  pub grows : Grows problem (λ p k. (k ≡ number) × IsAmongNames problem names count p) old new
  pub has : HasNames problem new number names count

among_more : (problem : Problem) (names : List (List ℕ)) (count p : ℕ) → IsAmongNames problem names count p
    → IsAmongNames problem names (count + 1) p
among_more problem names count p among = (among.0, among.1, omega (arith, among.2), among.3, among.4)

pub next_name : (problem : Problem) (number : ℕ) (names : List (List ℕ)) (count : ℕ) (name : List ℕ) (old mid new : List ℕ) → number < length problem.persons → slice_get names count ≡ Some name → AreNamesPut problem number names count old mid → Grows problem (λ p k. (k ≡ number) × IsPairing problem name p) mid new → HasPairing problem new number name → AreNamesPut problem number names (count + 1) old new
next_name problem number names count name old mid new few at put grows has = record {
  grows =
      then_grows problem (λ p k. (k ≡ number) × IsAmongNames problem names count p)
      (λ p k. (k ≡ number) × IsPairing problem name p)
      (λ p k. (k ≡ number) × IsAmongNames problem names (count + 1) p) old mid new
      (λ p k given. (given.0, among_more problem names count p given.1))
      (λ p k given. (given.0, (count, name, omega arith, at, given.1)))
      put.grows grows;
  has = λ i other below at_i. elim (cases_eq i count) [
    | inl here ↦
        let same : name ≡ other =
        same_Some name other (sym at ∙ subst (λ j. slice_get names j ≡ Some other) here at_i) in
        subst (λ text. HasPairing problem new number text) same has
    | inr apart ↦
        let earlier : i < count = omega (arith, below, apart) in
        keeps_pairing problem (λ p k. (k ≡ number) × IsPairing problem name p) mid new number other few grows
        (put.has i other earlier at_i)
  ];
}

-- ---- persons

-- what a roster has when the first that are given something are put
pub record AreFirstPut (problem : Problem) (list : List Given) (count : ℕ) (old new : List ℕ) : Type 0 where
  pub grows : Grows problem (IsGivenFirst problem list count) old new
  pub has : HasFirst problem new list count

first_more : (problem : Problem) (list : List Given) (count p k : ℕ) → IsGivenFirst problem list count p k
    → IsGivenFirst problem list (count + 1) p k
first_more problem list count p k given = (given.0, given.1, omega (arith, given.2), given.3, given.4)

-- who has what is given keeps it
keeps_given : (problem : Problem) (Gives : ℕ → ℕ → Type 0) (old new : List ℕ) (given : Given)
    → Grows problem Gives old new → HasGiven problem old given → HasGiven problem new given
keeps_given problem Gives old new given grows has =
    (has.0, has.1, has.2, λ i name below at. keeps_pairing problem Gives old new has.0 name has.1 grows (has.3 i name below at))

pub next_put : (problem : Problem) (list : List Given) (count : ℕ) (given : Given) (old mid new : List ℕ)
    → slice_get list count ≡ Some given → AreFirstPut problem list count old mid
    → Grows problem (GivesPairing problem given) mid new → HasGiven problem new given
    → AreFirstPut problem list (count + 1) old new
next_put problem list count given old mid new at put grows has = record {
  grows =
      then_grows problem (IsGivenFirst problem list count) (GivesPairing problem given)
      (IsGivenFirst problem list (count + 1)) old mid new
      (first_more problem list count)
      (λ p k gives. (count, given, omega arith, at, gives))
      put.grows grows;
  has = λ i other below at_i. elim (cases_eq i count) [
    | inl here ↦
        let same : given ≡ other =
        same_Some given other (sym at ∙ subst (λ j. slice_get list j ≡ Some other) here at_i) in
        subst (HasGiven problem new) same has
    | inr apart ↦
        let earlier : i < count = omega (arith, below, apart) in
        keeps_given problem (GivesPairing problem given) mid new other grows (put.has i other earlier at_i)
  ];
}

-- what is read of a list is read of what its elements say
pub said_at : {X : Type 0} (said : X → Given) (lines : List X) (i : ℕ) (line : X)
    → slice_get lines i ≡ Some line → slice_get (map said lines) i ≡ Some (said line)
said_at said lines i line at = slice_get-map said lines i ∙ ap (option_map said) at

-- nobody has a pairing of a roster in which each is open
pub nobody_has : (persons : ℕ) (places : List ℕ) (p k : ℕ) → All (λ x. x ≡ persons) places → k < persons
    → slice_get places p ≡ Some k → ⊥
nobody_has persons places p k nobody few at =
    let inside = slice_get_within places p k at in
    let is : k ≡ get_or places p k = sym (get_or_from_slice_get places p k k at) in
    let none = All-get_or (λ x. x ≡ persons) places p k inside nobody in
    omega (arith, is, none)
