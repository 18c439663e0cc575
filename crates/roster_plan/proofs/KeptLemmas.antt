-- What is kept of a given roster, with one number more.
use Rattle.std.proofs.Common.{◌≡◌, ℕ, ◌<◌, ◌≤◌, cond, List, [], ◌∷◌, ◌++◌, length, take, get_or, refl, sym, ap, ◌∙◌, subst, inl, inr, arith, eq-eqb}
use Rattle.std.specs.Prelude.{All, ◌⊎◌}
use Rattle.std.proofs.lemmas.Bool.{cases_eq, cases_lt, ne_eqb}
use Rattle.std.proofs.lemmas.List.{append-nil, length_push, get_or_push, get_or_append_left, take-append-le}
use Rattle.std.proofs.Math.Seq.{take-append_seam}
use Rattle.std.proofs.lemmas.List.Elements.{All-push}
use Rattle.roster_model.specs.Problem.{Problem}
use Rattle.roster_model.specs.Places.{set_of, open_number}
use Rattle.roster_model.specs.Plans.{IsKeptAt, IsKeptOf}
use Rattle.roster_model.specs.Rules.{IsLegal}
use Rattle.roster_model.specs.Rosters.{IsLegalRoster}
use Rattle.roster_model.proofs.PlacesLemmas.{set_of-push}
use Rattle.roster_model.proofs.SetLemmas.{places_of_number}
use Rattle.roster_plan.specs.Kept.{AreKept, IsKeptNext}

-- ---- one number

-- the set of a person, with the next pairing behind
pub next_set : (kept set new : List ℕ) (k number : ℕ) → set ≡ set_of k kept → k ≡ number
    → (All (λ q. q < length kept) set → new ≡ set ++ length kept ∷ [])
    → new ≡ set_of number kept ++ length kept ∷ []
next_set kept set new k number is same put =
    let there = subst (λ j. set ≡ set_of j kept) same is in
    put (subst (λ s. All (λ q. q < length kept) s) (sym there) (places_of_number number kept))
    ∙ ap (λ s. s ++ length kept ∷ []) there

-- it has places of pairings alone
pub next_places : (kept new : List ℕ) (number n : ℕ) → new ≡ set_of number kept ++ length kept ∷ []
    → length kept < n → All (λ p. p < n) new
next_places kept new number n is more =
    subst (λ s. All (λ p. p < n) s) (sym is) (All-push (λ p. p < n) (set_of number kept) (length kept) (λ i d h. let w = places_of_number number kept i d h in omega arith) more)

pub legal_as : (a b : Problem) (k number : ℕ) (new set : List ℕ) → a ≡ b → k ≡ number → new ≡ set
    → IsLegal a k new → IsLegal b number set
legal_as a b k number new set problem person is legal =
    subst (λ q. IsLegal q number set) problem
    (subst (λ j. IsLegal a j set) person (subst (λ s. IsLegal a k s) is legal))

-- ---- all numbers

pub nothing : (problem : Problem) (given : List ℕ) → AreKept problem given []
nothing problem given = record {
  numbers = λ i d h. absurd (omega arith);
  legal = λ k person. inl refl;
  each = λ p h. absurd (omega arith);
}

-- what is kept of a number at place p, behind those before it
Says : Problem → ℕ → List ℕ → ℕ → ℕ → Type 0
Says problem p before number next =
    ((number < open_number problem → IsLegal problem number (set_of number before ++ p ∷ [])) × (next ≡ number))
    ⊎ (((number < open_number problem → IsLegal problem number (set_of number before ++ p ∷ [])) → ⊥) × (next ≡ open_number problem))

says : (problem : Problem) (given kept before : List ℕ) (p number next : ℕ) → take p kept ≡ before
    → get_or given p 0 ≡ number → get_or kept p 0 ≡ next → Says problem p before number next
    → IsKeptAt problem given kept p
unfolding Says
says problem given kept before p number next front is same said =
    subst (λ b. Says problem p b (get_or given p 0) (get_or kept p 0)) (sym front)
    (subst (λ g. Says problem p before g (get_or kept p 0)) (sym is) (subst (λ x. Says problem p before number x) (sym same) said))

-- a place before the last is as it was
as_before : (problem : Problem) (given kept : List ℕ) (next p : ℕ) → p < length kept
    → IsKeptAt problem given kept p → IsKeptAt problem given (kept ++ next ∷ []) p
unfolding Says
as_before problem given kept next p inside is =
    says problem given (kept ++ next ∷ []) (take p kept) p (get_or given p 0) (get_or kept p 0)
    (take-append-le p kept (next ∷ []) (omega arith)) refl (get_or_append_left kept (next ∷ []) 0 p inside) is

-- the last one is what is kept next
at_last : (problem : Problem) (given kept : List ℕ) (number next : ℕ) → number ≡ get_or given (length kept) 0
    → IsKeptNext problem kept number next → IsKeptAt problem given (kept ++ next ∷ []) (length kept)
unfolding Says
at_last problem given kept number next is fits =
    says problem given (kept ++ next ∷ []) kept (length kept) number next
    (take-append_seam kept (next ∷ [])) (sym is) (get_or_push kept next 0 (length kept) refl) fits

next_number : (problem : Problem) (kept : List ℕ) (number next : ℕ) → number ≤ length problem.persons
    → IsKeptNext problem kept number next → next ≤ length problem.persons
next_number problem kept number next most (inl fits) = let e = fits.1 in omega arith
next_number problem kept number next most (inr fails) = let e = fails.1 in omega arith

-- the set of the next number is legal if it is a person's
next_legal : (problem : Problem) (kept : List ℕ) (number next : ℕ) → next < length problem.persons
    → IsKeptNext problem kept number next → IsLegal problem next (set_of next kept ++ length kept ∷ [])
next_legal problem kept number next person (inl fits) =
    subst (λ k. IsLegal problem k (set_of k kept ++ length kept ∷ [])) (sym fits.1)
    (fits.0 (let e = fits.1 in omega arith))
next_legal problem kept number next person (inr fails) = let e = fails.1 in absurd (omega arith)

sets_legal : (problem : Problem) (kept : List ℕ) (number next k : ℕ) → k < length problem.persons
    → IsLegal problem k (set_of k kept) → IsKeptNext problem kept number next
    → IsLegal problem k (set_of k (kept ++ next ∷ []))
sets_legal problem kept number next k person legal fits =
    let push = set_of-push k kept next in
    elim (cases_eq next k) [
      | inl same ↦
          let whole : set_of k (kept ++ next ∷ []) ≡ set_of k kept ++ length kept ∷ [] =
          push ∙ ap (λ b. set_of k kept ++ cond b (length kept ∷ []) []) (eq-eqb next k same) in
          subst (IsLegal problem k) (sym whole) (subst (λ j. IsLegal problem j (set_of j kept ++ length kept ∷ [])) same (next_legal problem kept number next (omega arith) fits))
      | inr other ↦
          let whole : set_of k (kept ++ next ∷ []) ≡ set_of k kept =
          push ∙ ap (λ b. set_of k kept ++ cond b (length kept ∷ []) []) (ne_eqb next k other)
          ∙ append-nil (set_of k kept) in
          subst (IsLegal problem k) (sym whole) legal
    ]

pub one_more : (problem : Problem) (given kept : List ℕ) (number next : ℕ) → AreKept problem given kept
    → number ≡ get_or given (length kept) 0 → number ≤ length problem.persons
    → IsKeptNext problem kept number next → AreKept problem given (kept ++ next ∷ [])
one_more problem given kept number next are is most fits = record {
  numbers =
      All-push (λ x. x ≤ length problem.persons) kept next are.numbers
      (next_number problem kept number next most fits);
  legal = λ k person. sets_legal problem kept number next k person (are.legal k person) fits;
  each = λ p h. elim (cases_lt p (length kept)) [
    | inl inside ↦ as_before problem given kept next p inside (are.each p inside)
    | inr past ↦
        let long = length_push kept next in
        let last : p ≡ length kept = omega arith in
        subst (IsKeptAt problem given (kept ++ next ∷ [])) (sym last)
        (at_last problem given kept number next is fits)
  ];
}

pub roster_kept : (problem : Problem) (given kept : List ℕ) → AreKept problem given kept
    → length kept ≡ length problem.pairings → IsLegalRoster problem kept
roster_kept problem given kept are covers =
    record { covers = covers; numbers = are.numbers; legal = are.legal }

pub all_kept : (problem : Problem) (given kept : List ℕ) → AreKept problem given kept
    → length kept ≡ length given → IsKeptOf problem given kept
all_kept problem given kept are covers = record {
  covers = covers;
  each = λ p inside. are.each p (omega (arith, covers));
}
