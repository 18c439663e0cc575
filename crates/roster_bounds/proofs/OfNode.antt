-- What the rosters of a node have at each place.
use Rattle.std.proofs.Common.{◌≡◌, ℕ, ◌≤◌, true, false, eqb, eq-eqb, ℤ, pos, ◌≤ℤ◌, List, length, get_or, Some, refl, sym, ◌∙◌, subst, inl, inr, arith}
use Rattle.std.specs.Prelude.{slice_get}
use Rattle.std.proofs.lemmas.Bool.{both_ways, cases_Bool, cases_lt, ltb-true, ne_eqb}
use Rattle.std.proofs.lemmas.Option.{slice_get_within, slice_get-get_or, get_or_from_slice_get}
use Rattle.roster_model.specs.Places.{set_of}
use Rattle.roster_model.proofs.PlacesLemmas.{is_among-set_of_past}
use Rattle.roster_model.specs.Rules.{is_among}
use Rattle.roster_model.proofs.PlacesParts.{in_set_of_number, number_from_set_of}
use Rattle.roster_lines_table.specs.Entries.{Entry}
use Rattle.roster_bounds.specs.Chosen.{line_set, is_placed, penalty_at, penalty_or_price, placing_person, price_at, ChosenLines, HasLines, IsNode, IsOfNode, Meets, PricedTable}
use Rattle.roster_bounds.proofs.PricedLines.{line_set-at}
use Rattle.roster_bounds.proofs.Placing.{placed_from, placed_has, placing_most}

-- each of the first persons has the line
pub has_line : (table : List (List Entry)) (lines places : List ℕ) (k i : ℕ) → HasLines table lines places
    → slice_get lines k ≡ Some i → line_set table k i ≡ set_of k places
has_line table lines places k i has found = line_set-at table k i (set_of k places) (has k i found)

-- a pairing of one of the lines is at its person,
pub place_of_placed : (table : List (List Entry)) (lines places : List ℕ) (p x : ℕ)
    → HasLines table lines places → slice_get places p ≡ Some x → is_placed table lines p ≡ true
    → x ≡ placing_person table 0 lines p
place_of_placed table lines places p x has at placed =
    let found = placed_has table lines p placed in
    let member =
    subst (λ set. is_among set p ≡ true)
    (has_line table lines places found.0 found.1 has found.2) found.4 in
    let number = number_from_set_of found.0 p places (slice_get_within places p x at) member in
    sym (get_or_from_slice_get places p x 0 at) ∙ number ∙ sym found.3

-- and another one is at none of their persons
pub place_of_other : (table : List (List Entry)) (lines places : List ℕ) (p x : ℕ)
    → HasLines table lines places → slice_get places p ≡ Some x → is_placed table lines p ≡ false
    → length lines ≤ x
place_of_other table lines places p x has at free =
    elim (cases_lt x (length lines)) [
      | inr past ↦ past
      | inl less ↦
          let found = slice_get-get_or lines x 0 less in
          let member =
          in_set_of_number x p places (slice_get_within places p x at)
          (get_or_from_slice_get places p x 0 at) in
          let mine =
          subst (λ set. is_among set p ≡ true)
          (sym (has_line table lines places x (get_or lines x 0) has found)) member in
          absurd (both_ways _ free (placed_from table lines p x (get_or lines x 0) found mine))
    ]

pub least_place_is : (table : List (List Entry)) (lines places : List ℕ) (p x : ℕ)
    → HasLines table lines places → slice_get places p ≡ Some x → placing_person table 0 lines p ≤ x
least_place_is table lines places p x has at =
    elim (cases_Bool (is_placed table lines p)) [
      | inl placed ↦ let same = place_of_placed table lines places p x has at placed in omega (arith, same)
      | inr free ↦ omega (arith, place_of_other table lines places p x has at free, placing_most table 0 lines p)
    ]

-- ---- a pairing's penalty or price

pub price_of_placed : (node : ChosenLines) (placed places : List ℕ) (reduced : ℤ) (p x : ℕ)
    → IsNode node.tables node.lines placed reduced → IsOfNode node places → slice_get places p ≡ Some x
    → is_among placed p ≡ true → penalty_or_price node.tables p x ≡ price_at node.tables.prices p
price_of_placed node placed places reduced p x is of at member =
    let table = node.tables.table in
    let given : is_placed table node.lines p ≡ true = sym (is.has p) ∙ member in
    let here = place_of_placed table node.lines places p x of.has at given in
    let less = ltb-true (placing_person table 0 node.lines p) (length node.lines) given in
    let other : eqb x (length node.tables.problem.persons) ≡ false =
    ne_eqb x _ (λ e. omega (arith, here, less, is.apart.persons, e)) in
    rw other refl

pub penalty_of_other : (node : ChosenLines) (placed places : List ℕ) (reduced : ℤ) (p x : ℕ)
    → IsNode node.tables node.lines placed reduced → IsOfNode node places → slice_get places p ≡ Some x
    → is_among placed p ≡ false → length node.lines ≡ length node.tables.problem.persons
    → penalty_or_price node.tables p x ≡ pos (penalty_at node.tables.problem p)
penalty_of_other node placed places reduced p x is of at other whole =
    let past = place_of_other node.tables.table node.lines places p x of.has at (sym (is.has p) ∙ other) in
    let most = of.legal.numbers p x (slice_get_within places p x at) in
    let number : get_or places p x ≡ x = get_or_from_slice_get places p x x at in
    let same : eqb x (length node.tables.problem.persons) ≡ true =
    eq-eqb x _ (omega (arith, past, whole, most, number)) in
    rw same refl

pub below_both : (tables : PricedTable) (p x : ℕ) (z : ℤ) → z ≤ℤ price_at tables.prices p
    → z ≤ℤ pos (penalty_at tables.problem p) → z ≤ℤ penalty_or_price tables p x
below_both tables p x z price penalty =
    elim (cases_Bool (eqb x (length tables.problem.persons))) [
      | inl same ↦ rw same penalty
      | inr other ↦ rw other price
    ]

-- ---- lines of its rosters

-- a later person's line shares no pairing with these lines
pub later_is_apart : (table : List (List Entry)) (lines places : List ℕ) (k : ℕ) → HasLines table lines places
    → length lines ≤ k → Meets table lines (set_of k places) → ⊥
later_is_apart table lines places k has later both =
    let p = both.0 in
    elim (cases_lt p (length places)) [
      | inl inside ↦
          let number = number_from_set_of k p places inside both.2 in
          let at = slice_get-get_or places p 0 inside in
          let here = place_of_placed table lines places p (get_or places p 0) has at both.1 in
          let less = ltb-true (placing_person table 0 lines p) (length lines) both.1 in
          omega (arith, number, here, less)
      | inr past ↦ both_ways _ (is_among-set_of_past k p places past) both.2
    ]
