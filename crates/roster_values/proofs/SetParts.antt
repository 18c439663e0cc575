-- A set with one place more, and its places from one on.
use Rattle.std.proofs.Common.{◌≡◌, ℕ, ◌+◌, ◌<◌, ◌≤◌, Bool, true, false, ◌&&◌, ◌||◌, eqb, eq-eqb, List, [], ◌∷◌, ◌++◌, refl, sym, ap, ◌∙◌, subst, inl, inr, arith}
use Rattle.std.specs.Prelude.{nat_lt, nat_le, All, filter}
use Rattle.std.proofs.Math.Bool.{or-false, or-true, or_comm}
use Rattle.std.proofs.lemmas.Bool.{cases_order, cases_lt, eqb-true, lt-ltb, le-ltb, le-leb, lt-leb, ltb-true, leb-true, ne_eqb}
use Rattle.std.proofs.lemmas.List.Elements.{All-cons, All-weaker, filter_passes}
use Rattle.roster_model.specs.Rules.{is_among}
use Rattle.roster_model.proofs.SetLemmas.{Ascends, Ascends-push, Ascends-append, Ascends-filter, is_among-append, is_among-filter, same_set, empty_set}
use Rattle.roster_values.specs.Set.{with_place, places_from}

-- ---- one place more

above : (p : ℕ) (set : List ℕ) → All (λ q. p < q) (filter (λ q. nat_lt p q) set)
above p set =
    All-weaker (λ q. nat_lt p q ≡ true) (λ q. p < q) (λ q h. ltb-true p q h) _
    (filter_passes (λ q. nat_lt p q) set)

below : (p : ℕ) (set : List ℕ) → All (λ q. q < p) (filter (λ q. nat_lt q p) set)
below p set =
    All-weaker (λ q. nat_lt q p ≡ true) (λ q. q < p) (λ q h. ltb-true q p h) _
    (filter_passes (λ q. nat_lt q p) set)

pub Ascends-with_place : (p : ℕ) (set : List ℕ) → Ascends set → Ascends (with_place p set)
Ascends-with_place p set up =
    let rest = above p set in
    Ascends-append _ (p ∷ filter (λ q. nat_lt p q) set) p (Ascends-filter (λ q. nat_lt q p) set up)
    (rest, Ascends-filter (λ q. nat_lt p q) set up) (below p set)
    (All-cons (λ q. p ≤ q) p _ (omega arith) (All-weaker (λ q. p < q) (λ q. p ≤ q) (λ q l. omega arith) _ rest))

either_side : (p q : ℕ) (b : Bool) → ((nat_lt q p && b) || (eqb p q || (nat_lt p q && b))) ≡ (b || eqb p q)
either_side p q b =
    elim (cases_order p q) [
      | inl here ↦ rw (le-ltb q p (omega arith), eq-eqb p q here) (sym (or-true b))
      | inr apart ↦ elim apart [
        | inl l ↦
            let other : p ≡ q → ⊥ = λ e. omega arith in
            rw (le-ltb q p (omega arith), ne_eqb p q other, lt-ltb p q l) (sym (or-false b))
        | inr l ↦
            let other : p ≡ q → ⊥ = λ e. omega arith in
            rw (lt-ltb q p l, ne_eqb p q other, le-ltb p q (omega arith)) refl
      ]
    ]

pub is_among-with_place : (p : ℕ) (set : List ℕ) (q : ℕ)
    → is_among (with_place p set) q ≡ (is_among set q || eqb p q)
is_among-with_place p set q =
    is_among-append (filter (λ r. nat_lt r p) set) (p ∷ filter (λ r. nat_lt p r) set) q
    ∙ rw (is_among-filter (λ r. nat_lt r p) set q, is_among-filter (λ r. nat_lt p r) set q) (either_side p q (is_among set q))

-- a place behind all others stands at the end
pub with_place-last : (p : ℕ) (set : List ℕ) → Ascends set → All (λ q. q < p) set
    → with_place p set ≡ set ++ p ∷ []
with_place-last p set up last =
    same_set _ _ (Ascends-with_place p set up) (Ascends-push set p up last) (λ q.
    is_among-with_place p set q
    ∙ sym (is_among-append set (p ∷ []) q ∙ ap (λ b. is_among set q || b) (or-false (eqb p q))))

-- a place before all others stands at the front
pub with_place-first : (p : ℕ) (set : List ℕ) → Ascends set → All (λ q. p < q) set
    → with_place p set ≡ p ∷ set
with_place-first p set up first =
    same_set _ _ (Ascends-with_place p set up) (first, up)
    (λ q. is_among-with_place p set q ∙ or_comm (is_among set q) (eqb p q))

-- ---- the places from one on

from_or_before : (from : ℕ) (set : List ℕ) (q : ℕ)
    → is_among (places_from from set) q ≡ (nat_le from q && is_among set q)
from_or_before from set q = is_among-filter (λ r. nat_le from r) set q

pub places_from-none : (from : ℕ) (set : List ℕ) → ((q : ℕ) → from ≤ q → is_among set q ≡ false)
    → places_from from set ≡ []
places_from-none from set none =
    empty_set (places_from from set) (λ q. from_or_before from set q ∙ elim (cases_lt q from) [
      | inl l ↦ rw (lt-leb from q l) refl
      | inr l ↦ rw (le-leb from q l) (none q l)
    ])

first_or_later : (from p q : ℕ) (b : Bool) → from ≤ p → (eqb p q ≡ true → b ≡ true)
    → (from ≤ q → q < p → b ≡ false) → (nat_le from q && b) ≡ (eqb p q || (nat_le (p + 1) q && b))
first_or_later from p q b l here before =
    elim (cases_order p q) [
      | inl same ↦ rw (le-leb from q (omega arith), eq-eqb p q same) (here (eq-eqb p q same))
      | inr apart ↦ elim apart [
        | inl later ↦
            let other : p ≡ q → ⊥ = λ e. omega arith in
            rw (le-leb from q (omega arith), ne_eqb p q other, le-leb (p + 1) q (omega arith)) refl
        | inr earlier ↦
            let other : p ≡ q → ⊥ = λ e. omega arith in
            rw (ne_eqb p q other, lt-leb (p + 1) q (omega arith)) (elim (cases_lt q from) [
              | inl out ↦ rw (lt-leb from q out) refl
              | inr in' ↦ rw (le-leb from q in') (before in' earlier)
            ])
      ]
    ]

pub places_from-some : (from p : ℕ) (set : List ℕ) → Ascends set → from ≤ p → is_among set p ≡ true
    → ((q : ℕ) → from ≤ q → q < p → is_among set q ≡ false)
    → places_from from set ≡ p ∷ places_from (p + 1) set
places_from-some from p set up l here before =
    let later = All-weaker (λ q. nat_le (p + 1) q ≡ true) (λ q. p < q) (λ q h. let m = leb-true (p + 1) q h in omega arith) _ (filter_passes (λ q. nat_le (p + 1) q) set) in
    same_set (places_from from set) (p ∷ places_from (p + 1) set) (Ascends-filter (λ q. nat_le from q) set up)
    (later, Ascends-filter (λ q. nat_le (p + 1) q) set up) (λ q.
    from_or_before from set q
    ∙ first_or_later from p q (is_among set q) l (λ e. subst (λ r. is_among set r ≡ true) (eqb-true p q e) here) (before q)
    ∙ ap (λ b. eqb p q || b) (sym (from_or_before (p + 1) set q)))

pub places_from-first : (set : List ℕ) → places_from 0 set ≡ set
places_from-first [] = refl
places_from-first (p ∷ set) = rw (le-leb 0 p (omega arith)) (ap (λ xs. p ∷ xs) (places_from-first set))
