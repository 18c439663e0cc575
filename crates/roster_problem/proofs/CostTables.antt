-- Cost units in a table.
use Rattle.std.proofs.Common.{◌≡◌, ◌≢◌, ℕ, ℤ, ◌+◌, ◌*◌, ◌/◌, ◌%◌, ◌<◌, ◌≤◌, ◌==◌, Bool, true, false, ◌&&◌, cond, eqb, eq-eqb, List, [], ◌∷◌, ◌++◌, length, get_or, set, Option, Some, None, option_map, refl, sym, ap, ◌∙◌, subst, inl, inr, arith}
use Rattle.std.specs.Prelude.{All}
use Rattle.std.specs.List.{find}
use Rattle.std.specs.Option.{option_or}
use Rattle.std.proofs.lemmas.Bool.{cases_eq, and_parts, eqb-true}
use Rattle.std.proofs.lemmas.Bool.Decides.{nat_tests}
use Rattle.std.proofs.lemmas.Nat.{div-mul-add, mod-mul-add}
use Rattle.std.proofs.lemmas.List.{get_or-set_same, get_or-set_other}
use Rattle.std.proofs.lemmas.List.Elements.{All-head, All-tail, All-weaker, All-push}
use Rattle.roster_model.specs.declared.limits.TheConstants.{MOST_PERSONS, MOST_PAIRINGS}
use Rattle.roster_model.specs.records.Cost.{Cost, is_cost_of, units_given}
use Rattle.roster_problem.specs.Costs.{AreUnitsOf, units_at}

-- ---- what is given

none_given : (costs : List Cost) (k p : ℕ) → All (λ cost. is_cost_of k p cost ≡ false) costs
    → units_given costs k p ≡ None
none_given [] k p none = refl
none_given (cost ∷ costs) k p none =
    rw (All-head (λ c. is_cost_of k p c ≡ false) cost costs none)
    (none_given costs k p (All-tail (λ c. is_cost_of k p c ≡ false) cost costs none))

other_person : (a b c d : ℕ) → a < b → ((a == b) && (c == d)) ≡ false
other_person a b c d l = grind (arith, nat_tests)

other_pairing : (a b c d : ℕ) → c < d → ((a == b) && (c == d)) ≡ false
other_pairing a b c d l = grind (arith, nat_tests)

-- a pair beyond the limits has no units
pub none_of_person : (costs : List Cost) (k p : ℕ) → All (λ cost. cost.person < MOST_PERSONS) costs
    → MOST_PERSONS ≤ k → units_given costs k p ≡ None
none_of_person costs k p within past =
    none_given costs k p (All-weaker (λ cost. cost.person < MOST_PERSONS) (λ cost. is_cost_of k p cost ≡ false) (λ cost l. other_person cost.person k cost.pairing p (omega arith)) costs within)

pub none_of_pairing : (costs : List Cost) (k p : ℕ) → All (λ cost. cost.pairing < MOST_PAIRINGS) costs
    → MOST_PAIRINGS ≤ p → units_given costs k p ≡ None
none_of_pairing costs k p within past =
    none_given costs k p (All-weaker (λ cost. cost.pairing < MOST_PAIRINGS) (λ cost. is_cost_of k p cost ≡ false) (λ cost l. other_pairing cost.person k cost.pairing p (omega arith)) costs within)

-- one cost more gives units where none were given before
given-more : (costs : List Cost) (cost : Cost) (k p : ℕ)
    → units_given (costs ++ cost ∷ []) k p ≡ option_or (units_given costs k p) (cond (is_cost_of k p cost) (Some cost.units) None)
given-more [] cost k p =
    let P : Bool → Type 0 =
    λ b. option_map (λ c. c.units) (cond b (Some cost) None) ≡ cond b (Some cost.units) None in
    elim (is_cost_of k p cost) as P [ true ↦ refl | false ↦ refl ]
given-more (first ∷ costs) cost k p =
    let P : Bool → Type 0 =
    λ b. option_map (λ c. c.units) (cond b (Some first) (find (is_cost_of k p) (costs ++ cost ∷ [])))
    ≡ option_or (option_map (λ c. c.units) (cond b (Some first) (find (is_cost_of k p) costs))) (cond (is_cost_of k p cost) (Some cost.units) None) in
    elim (is_cost_of k p first) as P [ true ↦ refl | false ↦ given-more costs cost k p ]

-- ---- the table

-- two pairs at one place in the table are one
same_pair : (j k q p : ℕ) → q < MOST_PAIRINGS → p < MOST_PAIRINGS
    → j * MOST_PAIRINGS + q ≡ k * MOST_PAIRINGS + p → (j ≡ k) × (q ≡ p)
same_pair j k q p l m same = (
  sym (div-mul-add j MOST_PAIRINGS q l) ∙ ap (λ n. n / MOST_PAIRINGS) same ∙ div-mul-add k MOST_PAIRINGS p m,
  sym (mod-mul-add j MOST_PAIRINGS q l) ∙ ap (λ n. n % MOST_PAIRINGS) same ∙ mod-mul-add k MOST_PAIRINGS p m,
)

abbrev place_of : Cost → ℕ
place_of cost = cost.person * MOST_PAIRINGS + cost.pairing

own : (cost : Cost) → is_cost_of cost.person cost.pairing cost ≡ true
own cost = rw (eq-eqb cost.person cost.person refl, eq-eqb cost.pairing cost.pairing refl) refl

-- the units that one cost more gives are its own, or those that were given
given_own : (costs : List Cost) (cost : Cost) → units_given costs cost.person cost.pairing ≡ None
    → units_given (costs ++ cost ∷ []) cost.person cost.pairing ≡ Some cost.units
given_own costs cost none = given-more costs cost cost.person cost.pairing ∙ rw (none, own cost) refl

or_none : (o : Option ℤ) → option_or o None ≡ o
or_none None = refl
or_none (Some z) = refl

given_other : (costs : List Cost) (cost : Cost) (k p : ℕ) → is_cost_of k p cost ≡ false
    → units_given (costs ++ cost ∷ []) k p ≡ units_given costs k p
given_other costs cost k p other = given-more costs cost k p ∙ rw other (or_none (units_given costs k p))

other_cost : (cost : Cost) (k p : ℕ) → (k * MOST_PAIRINGS + p ≢ place_of cost) → is_cost_of k p cost ≡ false
other_cost cost k p apart = by (is_cost_of k p cost) refl
  where
    by : (b : Bool) → is_cost_of k p cost ≡ b → b ≡ false
    by false is = refl
    by true is =
        let parts = and_parts (eqb cost.person k) (eqb cost.pairing p) is in
        let person : cost.person ≡ k = eqb-true _ _ parts.0 in
        let pairing : cost.pairing ≡ p = eqb-true _ _ parts.1 in
        absurd (apart (sym (ap (λ j. j * MOST_PAIRINGS + p) person) ∙ sym (ap (λ q. cost.person * MOST_PAIRINGS + q) pairing)))

-- the table with the units of one more cost, where it has room for them
pub AreUnitsOf-push : (costs : List Cost) (table room : List (Option ℤ)) (cost : Cost)
    → AreUnitsOf costs table
    → ((i : ℕ) → get_or room i None ≡ get_or table i None) → cost.person < MOST_PERSONS
    → cost.pairing < MOST_PAIRINGS
    → units_given costs cost.person cost.pairing ≡ None → place_of cost < length room
    → AreUnitsOf (costs ++ cost ∷ []) (set room (place_of cost) (Some cost.units))
AreUnitsOf-push costs table room cost is same person pairing none within = record {
  persons = All-push (λ c. c.person < MOST_PERSONS) costs cost is.persons person;
  pairings = All-push (λ c. c.pairing < MOST_PAIRINGS) costs cost is.pairings pairing;
  each = λ k p l. elim (cases_eq (k * MOST_PAIRINGS + p) (place_of cost)) [
    | inl here ↦
        let pair = same_pair k cost.person p cost.pairing l pairing here in
        let P : ℕ → ℕ → Type 0 = λ j q. units_at (set room (place_of cost) (Some cost.units)) j q ≡ units_given (costs ++ cost ∷ []) j q in
        let own_place : P cost.person cost.pairing =
        get_or-set_same room (place_of cost) (Some cost.units) None within
        ∙ sym (given_own costs cost none) in
        subst (λ j. P j p) (sym pair.0) (subst (λ q. P cost.person q) (sym pair.1) own_place)
    | inr apart ↦
        get_or-set_other room (place_of cost) (k * MOST_PAIRINGS + p) (Some cost.units) None apart
        ∙ same (k * MOST_PAIRINGS + p) ∙ is.each k p l
        ∙ sym (given_other costs cost k p (other_cost cost k p apart))
  ];
}
