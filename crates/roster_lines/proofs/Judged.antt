-- Which pairings have been judged to be legal, alone or with another.
use Rattle.std.proofs.Common.{◌≡◌, ℕ, ◌+◌, ◌<◌, ◌≤◌, true, false, ◌||◌, eqb, eq-eqb, List, [], ◌∷◌, sym, ◌∙◌, subst, inl, inr, arith}
use Rattle.std.specs.Prelude.{◌↔◌}
use Rattle.std.proofs.lemmas.Bool.{eqb-true, cases_lt, false≢true, both_ways, or_cases, or_left, or_right}
use Rattle.roster_model.specs.Problem.{Problem}
use Rattle.roster_model.specs.Rules.{is_among, IsLegal}
use Rattle.roster_model.proofs.SetLemmas.{is_among-here}
use Rattle.roster_lines.specs.Listing.{AreAlone, ArePartsLegal, AreTogether, IsRow}
use Rattle.roster_lines.proofs.Listed.{among_single}

-- the set has what is so of the numbers below n
abbrev pub HasBelow : (ℕ → Type 0) → ℕ → List ℕ → Type 0
HasBelow P n set = (q : ℕ) → (is_among set q ≡ true) ↔ ((q < n) × P q)

-- up to the next number p of which it may be so, where it is,
pub HasBelow-with : (P : ℕ → Type 0) (set new : List ℕ) (n p : ℕ) → HasBelow P n set → n ≤ p
    → ((q : ℕ) → n ≤ q → q < p → P q → ⊥) → P p → ((q : ℕ) → is_among new q ≡ (is_among set q || eqb p q))
    → HasBelow P (p + 1) new
HasBelow-with P set new n p has later none is members q = (
  λ h. elim (or_cases (is_among set q) (eqb p q) (sym (members q) ∙ h)) [
    | inl old ↦ let below = ((has q).0 old).0 in (omega arith, ((has q).0 old).1)
    | inr here ↦ let same = eqb-true p q here in (omega arith, subst P same is)
  ],
  λ h. members q ∙ elim (cases_lt q n) [
    | inl old ↦ or_left _ _ ((has q).1 (old, h.1))
    | inr new ↦ elim (cases_lt q p) [
      | inl skipped ↦ absurd (none q new skipped h.1)
      | inr here ↦ or_right (is_among set q) _ (eq-eqb p q (omega (arith, h.0)))
    ]
  ],
)

-- and if it isn't
pub HasBelow-without : (P : ℕ → Type 0) (set : List ℕ) (n p : ℕ) → HasBelow P n set → n ≤ p
    → ((q : ℕ) → n ≤ q → q < p → P q → ⊥) → (P p → ⊥) → HasBelow P (p + 1) set
HasBelow-without P set n p has later none not q = (
  λ h. let below = ((has q).0 h).0 in (omega arith, ((has q).0 h).1),
  λ h. elim (cases_lt q n) [
    | inl old ↦ (has q).1 (old, h.1)
    | inr new ↦ elim (cases_lt q p) [
      | inl skipped ↦ absurd (none q new skipped h.1)
      | inr here ↦ let same : q ≡ p = omega (arith, h.0) in absurd (not (subst P same h.1))
    ]
  ],
)

-- what a judge of the problem says of a set that is known
pub legal_as : (judge problem : Problem) (k : ℕ) (set asked : List ℕ) → judge ≡ problem → set ≡ asked
    → IsLegal judge k set → IsLegal problem k asked
legal_as judge problem k set asked same is legal =
    subst (λ p. IsLegal p k asked) same (subst (IsLegal judge k) is legal)

pub illegal_as : (judge problem : Problem) (k : ℕ) (set asked : List ℕ) → judge ≡ problem → set ≡ asked
    → (IsLegal judge k set → ⊥) → IsLegal problem k asked → ⊥
illegal_as judge problem k set asked same is not legal =
    not (legal_as problem judge k asked set (sym same) (sym is) legal)

module _ (problem : Problem) (k : ℕ) (legal : ArePartsLegal problem k) (alone : List ℕ)
    (are : AreAlone problem k alone) where
  -- two pairings that are legal together are legal alone
  pub both_alone : (p q : ℕ) → AreTogether problem k p q
      → (is_among alone p ≡ true) × (is_among alone q ≡ true)
  both_alone p q together =
      let first : is_among (p ∷ q ∷ []) p ≡ true = is_among-here p (q ∷ []) in
      let second : is_among (p ∷ q ∷ []) q ≡ true = or_right (eqb p q) _ (is_among-here q []) in (
        (are p).1 (omega (arith, together.0, together.1), legal (p ∷ q ∷ []) (p ∷ []) (λ r h. subst (λ s. is_among (p ∷ q ∷ []) s ≡ true) (among_single p r h) first) together.2),
        (are q).1 (together.1, legal (p ∷ q ∷ []) (q ∷ []) (λ r h. subst (λ s. is_among (p ∷ q ∷ []) s ≡ true) (among_single q r h) second) together.2),
      )

  -- a pairing that isn't legal alone has none
  pub IsRow-none : (p : ℕ) → is_among alone p ≡ false → IsRow problem k p []
  IsRow-none p not q =
      (λ h. absurd (false≢true h), λ together. absurd (both_ways _ not (both_alone p q together).0))

  -- past the last that is legal alone, the row is whole
  pub IsRow-whole : (p n : ℕ) (row : List ℕ) → HasBelow (AreTogether problem k p) n row
      → ((q : ℕ) → n ≤ q → is_among alone q ≡ false) → IsRow problem k p row
  IsRow-whole p n row has none q = (
    λ h. ((has q).0 h).1,
    λ together. elim (cases_lt q n) [
      | inl below ↦ (has q).1 (below, together)
      | inr past ↦ absurd (both_ways _ (none q past) (both_alone p q together).1)
    ],
  )

  -- what was skipped isn't legal together with it
  pub none_skipped : (p n next : ℕ) → ((q : ℕ) → n ≤ q → q < next → is_among alone q ≡ false) → (q : ℕ)
      → n ≤ q → q < next → AreTogether problem k p q → ⊥
  none_skipped p n next none q later before together =
      both_ways _ (none q later before) (both_alone p q together).1
