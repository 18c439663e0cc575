-- Where a list of sets in order is cut by a mark.
use Rattle.std.proofs.Common.{◌≡◌, ℕ, ◌+◌, ◌<◌, ◌≤◌, true, false, List, [], ◌∷◌, length, get_or, Some, refl, sym, ap, ◌∙◌, subst, inl, inr, arith}
use Rattle.std.specs.Prelude.{◌↔◌, All, slice_get}
use Rattle.std.proofs.lemmas.Bool.{both_ways, cases_lt, cases_order, false_from_ne_true}
use Rattle.std.proofs.lemmas.List.Elements.{All-head}
use Rattle.std.proofs.lemmas.Option.{none-some, same_Some, slice_get_within, slice_get-get_or, get_or_from_slice_get}
use Rattle.roster_model.specs.Lines.{AreOrdered}
use Rattle.roster_model.specs.Places.{places_le}
use Rattle.roster_model.proofs.PlacesOrder.{places_le-refl, places_le-trans, at_most_from_before, before-trans_left, between_marks, first_at_most, marks_at_most}
use Rattle.roster_lines_table.specs.Entries.{IsCut}

-- places below a number stand before it
pub before_count : (count : ℕ) (set : List ℕ) → All (λ p. p < count) set → places_le (count ∷ []) set ≡ false
before_count count [] below = refl
before_count count (p ∷ set) below =
    let first : p < count = All-head (λ q. q < count) p set below in
    false_from_ne_true _ (λ h. let least = first_at_most count p set h in omega arith)

-- of two of the sets the earlier one stands before the other
pub ordered_at : (sets : List (List ℕ)) → AreOrdered sets → (i j : ℕ) (a b : List ℕ) → i < j
    → slice_get sets i ≡ Some a → slice_get sets j ≡ Some b → places_le b a ≡ false
ordered_at sets ordered i j a b earlier first second =
    let inside = slice_get_within sets j b second in
    subst (λ x. places_le x a ≡ false) (get_or_from_slice_get sets j b [] second)
    (subst (λ x. places_le (get_or sets j []) x ≡ false) (get_or_from_slice_get sets i a [] first) (ordered i j [] earlier inside))

-- a set stands at one place
pub one_place : (sets : List (List ℕ)) → AreOrdered sets → (i j : ℕ) (set : List ℕ)
    → slice_get sets i ≡ Some set → slice_get sets j ≡ Some set → i ≡ j
one_place sets ordered i j set first second =
    elim (cases_order i j) [
      | inl same ↦ same
      | inr apart ↦ absurd (elim apart [
        | inl less ↦ both_ways _ (ordered_at sets ordered i j set set less first second) (places_le-refl set)
        | inr more ↦ both_ways _ (ordered_at sets ordered j i set set more second first) (places_le-refl set)
      ])
    ]

-- what stands at or before the first of two places, and before the mark
pub still_before : (sets : List (List ℕ)) → AreOrdered sets → (mark : List ℕ) (i j : ℕ) (a b : List ℕ) → i ≤ j
    → slice_get sets i ≡ Some a → slice_get sets j ≡ Some b → places_le mark b ≡ false
    → places_le mark a ≡ false
still_before sets ordered mark i j a b earlier first second before =
    elim (cases_lt i j) [
      | inl less ↦ before-trans_left a b mark (at_most_from_before a b (ordered_at sets ordered i j a b less first second)) before
      | inr here ↦
          let same : i ≡ j = omega arith in
          let one = same_Some b a (sym second ∙ ap (slice_get sets) (sym same) ∙ first) in
          subst (λ x. places_le mark x ≡ false) one before
    ]

pub still_behind : (sets : List (List ℕ)) → AreOrdered sets → (mark : List ℕ) (i j : ℕ) (a b : List ℕ) → i ≤ j
    → slice_get sets i ≡ Some a → slice_get sets j ≡ Some b → places_le mark a ≡ true
    → places_le mark b ≡ true
still_behind sets ordered mark i j a b earlier first second behind =
    elim (cases_lt i j) [
      | inl less ↦ places_le-trans mark a b behind (at_most_from_before a b (ordered_at sets ordered i j a b less first second))
      | inr here ↦
          let same : i ≡ j = omega arith in
          let one = same_Some a b (sym first ∙ ap (slice_get sets) same ∙ second) in
          subst (λ x. places_le mark x ≡ true) one behind
    ]

-- the place of a set among them is where they are cut by it
pub cut_at : (sets : List (List ℕ)) → AreOrdered sets → (set : List ℕ) (n i : ℕ) → IsCut sets set n
    → slice_get sets i ≡ Some set → n ≡ i
cut_at sets ordered set n i cut at =
    elim (cases_order n i) [
      | inl same ↦ same
      | inr apart ↦ absurd (elim apart [
        | inl less ↦
            let inside = slice_get_within sets i set at in
            let there = slice_get-get_or sets n [] (omega arith) in
            both_ways _ (ordered_at sets ordered n i (get_or sets n []) set less there at)
            (cut.behind n (get_or sets n []) (omega arith) there)
        | inr more ↦ both_ways _ (cut.before i set more at) (places_le-refl set)
      ])
    ]

-- ---- the run of a pairing, between the cuts at it and at the next one

rising_cuts : (sets : List (List ℕ)) (p low high : ℕ) → IsCut sets (p ∷ []) low
    → IsCut sets ((p + 1) ∷ []) high → low ≤ high
rising_cuts sets p low high first second =
    elim (cases_lt high low) [
      | inl less ↦
          let bound = first.bound in
          let there = slice_get-get_or sets high [] (omega arith) in
          let more =
          places_le-trans (p ∷ []) ((p + 1) ∷ []) (get_or sets high [])
          (marks_at_most [] p (p + 1) [] (omega arith))
          (second.behind high (get_or sets high []) (omega arith) there) in
          absurd (both_ways _ (first.before high (get_or sets high []) less there) more)
      | inr more ↦ more
    ]

pub run_bounds : (sets : List (List ℕ)) (p low high : ℕ) → IsCut sets (p ∷ []) low
    → IsCut sets ((p + 1) ∷ []) high → (low ≤ high) × (high ≤ length sets)
run_bounds sets p low high first second = (rising_cuts sets p low high first second, second.bound)

least_from_set : (p : ℕ) (set : List ℕ) → slice_get set 0 ≡ Some p
    → (places_le (p ∷ []) set ≡ true) × (places_le ((p + 1) ∷ []) set ≡ false)
least_from_set p [] at = absurd (none-some _ at)
least_from_set p (q ∷ set) at =
    let same : q ≡ p = same_Some q p at in (
      marks_at_most [] p q set (omega arith),
      false_from_ne_true _ (λ h. let least = first_at_most (p + 1) q set h in omega arith),
    )

set_from_least : (p : ℕ) (set : List ℕ) → places_le (p ∷ []) set ≡ true → places_le ((p + 1) ∷ []) set ≡ false
    → slice_get set 0 ≡ Some p
set_from_least p set on before =
    let found = between_marks [] p (p + 1) set on before in
    let same : found.0 ≡ p = omega (arith, found.3, found.4) in
    ap (λ s. slice_get s 0) found.2 ∙ ap Some same

pub run_from_cuts : (sets : List (List ℕ)) (p low high : ℕ) → IsCut sets (p ∷ []) low
    → IsCut sets ((p + 1) ∷ []) high → (i : ℕ) (set : List ℕ) → slice_get sets i ≡ Some set
    → (slice_get set 0 ≡ Some p) ↔ ((low ≤ i) × (i < high))
run_from_cuts sets p low high first second i set at = (
  λ least.
      let two = least_from_set p set least in (
        elim (cases_lt i low) [ inl less ↦ absurd (both_ways _ (first.before i set less at) two.0) | inr more ↦ more ],
        elim (cases_lt i high) [ inl less ↦ less | inr more ↦ absurd (both_ways _ two.1 (second.behind i set more at)) ],
      ),
  λ inside. set_from_least p set (first.behind i set inside.0 at) (second.before i set inside.1 at),
)
