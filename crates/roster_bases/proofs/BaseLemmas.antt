-- The persons and the pairings of a base, and that who flies a pairing has its base.
use Rattle.std.proofs.Common.{◌≡◌, ℕ, zero, suc, ◌+◌, ◌<◌, ◌≤◌, Bool, true, false, cond, List, [], ◌∷◌, ◌++◌, length, get_or, Option, option_map, Some, sym, ap, ◌∙◌, subst, inl, inr, arith}
use Rattle.std.specs.Prelude.{All, slice_get, unwrap_or}
use Rattle.std.specs.List.{filter, range_with_len}
use Rattle.std.proofs.lemmas.Bool.{cases_Bool, cases_eq, false≢true}
use Rattle.std.proofs.lemmas.List.{append-nil, get_or_append_left, get_or_push, length_push}
use Rattle.std.proofs.lemmas.List.Elements.{All-filter, filter-append}
use Rattle.std.proofs.lemmas.List.FromFn.{get_or-range_with_len, length-range_with_len}
use Rattle.std.proofs.lemmas.Option.{get_or_from_slice_get, slice_get-get_or, slice_get_within}
use Rattle.roster_model.specs.Places.{set_of}
use Rattle.roster_model.specs.Problem.{Problem}
use Rattle.roster_model.specs.Rosters.{IsLegalRoster}
use Rattle.roster_model.specs.Rules.{is_among, BaseRule}
use Rattle.roster_model.specs.records.Crew.{Person}
use Rattle.roster_model.specs.records.Pairing.{Pairing}
use Rattle.roster_model.proofs.PlacesParts.{in_set_of_number}
use Rattle.roster_model.proofs.SetLemmas.{Contains-from_is_among}
use Rattle.roster_bases.specs.Bases.{base_of_pairing, base_of_person}

-- ---- the first numbers that pass a test

abbrev pub passing : (ℕ → Bool) → ℕ → List ℕ
passing test n = filter test (range_with_len 0 n)

range_more : (first n last : ℕ) → first + n ≡ last
    → range_with_len first (suc n) ≡ range_with_len first n ++ last ∷ []
range_more first zero last at =
    let here : first ≡ last = omega (arith, at) in
    ap (λ i. i ∷ []) here
range_more first (suc n) last at =
    ap (λ rest. first ∷ rest) (range_more (first + 1) n last (omega (arith, at)))

passing-more : (test : ℕ → Bool) (n : ℕ) → passing test (n + 1) ≡ passing test n ++ filter test (n ∷ [])
passing-more test n =
    let next : n + 1 ≡ suc n = omega arith in
    ap (λ m. filter test (range_with_len 0 m)) next ∙ ap (filter test) (range_more 0 n n (omega arith)) ∙ filter-append test (range_with_len 0 n) (n ∷ [])

pub passing-next : (test : ℕ → Bool) (n : ℕ) → test n ≡ true → passing test (n + 1) ≡ passing test n ++ n ∷ []
passing-next test n here =
    passing-more test n ∙ ap (λ b. passing test n ++ cond b (n ∷ []) []) here

pub passing-same : (test : ℕ → Bool) (n : ℕ) → test n ≡ false → passing test (n + 1) ≡ passing test n
passing-same test n none =
    passing-more test n ∙ ap (λ b. passing test n ++ cond b (n ∷ []) []) none ∙ append-nil (passing test n)

-- no more numbers pass than there are
pub passing_few : (test : ℕ → Bool) (n : ℕ) → length (passing test n) ≤ n
passing_few test zero = omega arith
passing_few test (suc n) =
    let next : suc n ≡ n + 1 = omega arith in
    let before = passing_few test n in
    elim (cases_Bool (test n)) [
      | inl here ↦ omega (arith, before, ap length (ap (passing test) next ∙ passing-next test n here), length_push (passing test n) n)
      | inr none ↦ omega (arith, before, ap length (ap (passing test) next ∙ passing-same test n none))
    ]

-- a number that passes stands behind those before it
pub passing_at : (test : ℕ → Bool) (n k : ℕ) → k < n → test k ≡ true
    → slice_get (passing test n) (length (passing test k)) ≡ Some k
passing_at test zero k inside here = absurd (omega (arith, inside))
passing_at test (suc n) k inside here =
    let next : suc n ≡ n + 1 = omega arith in
    elim (cases_eq k n) [
      | inl last ↦
          let own = subst (λ i. test i ≡ true) last here in
          let all = ap (passing test) next ∙ passing-next test n own in
          let place : length (passing test n) ≡ length (passing test k) = ap (λ i. length (passing test i)) (sym last) in
          let room : length (passing test k) < length (passing test n ++ n ∷ []) =
          omega (arith, place, length_push (passing test n) n) in
          ap (λ xs. slice_get xs (length (passing test k))) all
          ∙ slice_get-get_or (passing test n ++ n ∷ []) (length (passing test k)) 0 room
          ∙ ap Some (get_or_push (passing test n) n 0 (length (passing test k)) place ∙ sym last)
      | inr before ↦
          let was = passing_at test n k (omega (arith, inside, before)) here in
          elim (cases_Bool (test n)) [
            | inl own ↦
                let i : ℕ = length (passing test k) in
                let old : i < length (passing test n) = slice_get_within (passing test n) i k was in
                let room : i < length (passing test n ++ n ∷ []) = omega (arith, old, length_push (passing test n) n) in
                ap (λ xs. slice_get xs i) (ap (passing test) next ∙ passing-next test n own)
                ∙ slice_get-get_or (passing test n ++ n ∷ []) i 0 room
                ∙ ap Some (get_or_append_left (passing test n) (n ∷ []) 0 i old ∙ get_or_from_slice_get (passing test n) i k 0 was)
            | inr none ↦ ap (λ xs. slice_get xs (length (passing test k))) (ap (passing test) next ∙ passing-same test n none) ∙ was
          ]
    ]

range_inside : (n : ℕ) → All (λ k. k < n) (range_with_len 0 n)
range_inside n i d inside =
    let below : i < n = omega (arith, inside, length-range_with_len 0 n) in
    let number = get_or-range_with_len 0 n i d below in
    omega (arith, number, below)

-- each number that passes is among the first
pub passing_inside : (test : ℕ → Bool) (n : ℕ) → All (λ k. k < n) (passing test n)
passing_inside test n = All-filter test (λ k. k < n) (range_with_len 0 n) (range_inside n)

-- ---- by their numbers

pub found_at : {X : Type 0} (xs : List X) (i : ℕ) → i < length xs → (x : X) × (slice_get xs i ≡ Some x)
found_at [] i inside = absurd (omega (arith, inside))
found_at (x ∷ xs) i inside = (get_or (x ∷ xs) i x, slice_get-get_or (x ∷ xs) i x inside)

pub person_base : (problem : Problem) (k : ℕ) (person : Person) → slice_get problem.persons k ≡ Some person
    → base_of_person problem k ≡ person.base
person_base problem k person at =
    ap (λ (found : Option Person). unwrap_or (option_map (λ (x : Person). x.base) found) 0) at

pub pairing_base : (problem : Problem) (p : ℕ) (pairing : Pairing) → slice_get problem.pairings p ≡ Some pairing
    → base_of_pairing problem p ≡ pairing.base
pairing_base problem p pairing at =
    ap (λ (found : Option Pairing). unwrap_or (option_map (λ (x : Pairing). x.base) found) 0) at

-- ---- who flies a pairing

pub same_base : (problem : Problem) (places : List ℕ) (k p : ℕ) → IsLegalRoster problem places
    → p < length places → k < length problem.persons → get_or places p 0 ≡ k
    → base_of_pairing problem p ≡ base_of_person problem k
same_base problem places k p legal inside person has =
    let pairing = found_at problem.pairings p (omega (arith, inside, legal.covers)) in
    let who = found_at problem.persons k person in
    let member = in_set_of_number k p places inside has in
    elim (legal.legal k person) [
      | inl empty ↦ absurd (false≢true (subst (λ set. is_among set p ≡ true) empty member))
      | inr all ↦
          pairing_base problem p pairing.0 pairing.1
          ∙ all BaseRule p pairing.0 who.0 (Contains-from_is_among (set_of k places) p member) pairing.1 who.1
          ∙ sym (person_base problem k who.0 who.1)
    ]

-- nobody has a pairing of other bases
pub apart : (problem : Problem) (bases : ℕ → Bool) (places : List ℕ) (k p : ℕ) → IsLegalRoster problem places
    → k < length problem.persons → p < length places
    → (bases (base_of_pairing problem p) ≡ bases (base_of_person problem k) → ⊥) → get_or places p 0 ≡ k → ⊥
apart problem bases places k p legal person inside other number =
    other (ap bases (same_base problem places k p legal inside person number))
