-- A weight, a cost, an assignment or a step more keeps the contents sound.
use Rattle.std.proofs.Common.{◌≡◌, ℕ, ◌+◌, ◌<◌, ◌≤◌, Bool, true, false, cond, not, List, [], ◌∷◌, ◌++◌, length, eqb, Option, Some, None, refl, ◌∙◌, arith}
use Rattle.std.specs.Prelude.{IfSome, is_some, unwrap_or, unsigned_abs}
use Rattle.std.specs.List.{IsDistinct, list_any}
use Rattle.std.specs.Option.{option_or}
use Rattle.std.proofs.lemmas.List.{map-append}
use Rattle.std.proofs.lemmas.List.Elements.{All-push}
use Rattle.std.proofs.lemmas.Cmp.{nat_eq_equiv}
use Rattle.std.proofs.lemmas.Map.Keys.{IsDistinct-push}
use Rattle.roster_model.specs.declared.limits.TheConstants.{MOST_COSTS, MOST_STEPS, MOST_UNITS, MOST_WEIGHT}
use Rattle.roster_model.specs.Form.{number_of}
use Rattle.roster_model.specs.Record.{Record, WeightRecord, CostRecord, AssignRecord, StepRecord, place_named}
use Rattle.roster_model.specs.Code.{GivenTwice, NotGiven, NoRoom, OutOfLimits}
use Rattle.roster_model.specs.Faults.{code_of_kind}
use Rattle.roster_model.specs.records.Weight as weight
use Rattle.roster_model.specs.records.Cost as cost
use Rattle.roster_model.specs.records.Assign as assign
use Rattle.roster_model.specs.records.Step as step
use Rattle.roster_model.specs.records.Step.{step_of}
use Rattle.roster_model.specs.records.Weight.{weight_in, weight_of}
use Rattle.roster_model.specs.records.Crew.{persons_in, person_place}
use Rattle.roster_model.specs.records.Pairing.{pairings_in, pairing_place}
use Rattle.roster_model.specs.records.Cost.{costs_in, cost_of}
use Rattle.roster_model.specs.records.Assign.{Assign, assign_of, assigns_in, is_assign_of, is_assigned}
use Rattle.roster_book.proofs.Conditions.{IsMet, amount-below, below, is_met, none_given, place-below, place-within, units-below}
use Rattle.roster_book.proofs.Soundness.{KeepsSound, has_room, one_more, paired, sound-more}
use Rattle.roster_book.proofs.Tables.{weight_count}
use Rattle.roster_book.proofs.Tests.{both_of}

-- ---- the weight

-- it is given once
weight_taken : (given : Option ℕ) (weight : ℕ) → given ≡ None
    → weight_count (option_or given (Some weight)) ≡ weight_count given + 1
weight_taken None weight none = refl
weight_taken (Some w) weight none = cc

weight_kept : (given : Option ℕ) (weight : ℕ) → given ≡ None → weight ≤ MOST_WEIGHT
    → unwrap_or (option_or given (Some weight)) 0 ≤ MOST_WEIGHT
weight_kept None weight none few = few
weight_kept (Some w) weight none few = cc

pub sound-weight : KeepsSound WeightRecord
unfolding code_of_kind weight_of
sound-weight count before fields contents k =
    let t = contents.tables in
    let s = k.sound.sound in
    let made : ℕ = weight_of before fields in
    let met = is_met (weight.conditions before fields) k.met in
    let none : t.weight ≡ None = rw k.tables_are (none_given (weight_in before) (met GivenTwice)) in
    let few =
    weight_kept t.weight made none
    (amount-below MOST_WEIGHT (number_of (weight.amount_in fields)) (met OutOfLimits)) in
    let n = weight_taken t.weight made none in
    sound-more k.sound (assumption (few, s)) refl k.sound.assigned (omega arith)

-- ---- costs

-- a cost's person and pairing are known, and there is room for one more
record IsPriced (before : List Record) (person pairing : Option ℕ) : Type 0 where
  person_known : is_some person ≡ true
  pairing_known : is_some pairing ≡ true
  room : length (costs_in before) < MOST_COSTS

priced : (before : List Record) (person pairing : Option ℕ)
    → IsMet NotGiven (cost.conditions_between before person pairing)
    → IsMet NoRoom (cost.conditions_between before person pairing) → IsPriced before person pairing
priced before None pairing given room = cc given
priced before (Some k) None given room = cc given
priced before (Some k) (Some p) given room =
    record { person_known = refl; pairing_known = refl; room = below _ MOST_COSTS room }

pub sound-cost : KeepsSound CostRecord
unfolding code_of_kind cost_of
sound-cost count before fields contents k =
    let t = contents.tables in
    let s = k.sound.sound in
    let made = cost_of before fields in
    let met = is_met (cost.conditions before fields) k.met in
    let h =
    priced before (person_place before (cost.crew_in fields))
    (pairing_place before (cost.pairing_in fields)) (met NotGiven) (met NoRoom) in
    let n = has_room MOST_COSTS t.costs made (rw k.tables_are h.room) in
    let person : made.person < length t.persons =
    rw k.tables_are (place-below _ _ (persons_in before) h.person_known) in
    let pairing : made.pairing < length t.pairings =
    rw k.tables_are (place-below _ _ (pairings_in before) h.pairing_known) in
    let persons = All-push (λ c. c.person < length t.persons) t.costs made s.cost_persons person in
    let pairings = All-push (λ c. c.pairing < length t.pairings) t.costs made s.cost_pairings pairing in
    let units =
    All-push (λ c. unsigned_abs c.units ≤ MOST_UNITS) t.costs made s.units
    (units-below (number_of (cost.units_in fields)) (met OutOfLimits)) in
    sound-more k.sound (assumption (n.few, persons, pairings, units, s)) refl k.sound.assigned (omega arith)

-- ---- assignments

not_true : (b : Bool) → not b ≡ true → b ≡ false
not_true true h = cc
not_true false h = refl

-- its pairing is known, and not assigned yet
record IsAssignable (assigns : List Assign) (pairing : Option ℕ) : Type 0 where
  place : ℕ
  place_is : pairing ≡ Some place
  free : list_any (is_assign_of place) assigns ≡ false

assignable : (assigns : List Assign) (pairing : Option ℕ) → not (is_assigned assigns pairing) ≡ true
    → is_some pairing ≡ true → IsAssignable assigns pairing
assignable assigns None twice some = cc some
assignable assigns (Some p) twice some = record { place = p; place_is = refl; free = not_true _ twice }

-- whom it names is there, if it names anybody
assignee-below : {X : Type 0} (nobody : Bool) (id_of : X → List ℕ) (name : List ℕ) (xs : List X)
    → IfSome (cond nobody None (place_named id_of name xs)) (λ k. k < length xs)
assignee-below true id_of name xs = tt
assignee-below false id_of name xs = place-within id_of name xs

paired_with : (assigns : List Assign) (p : ℕ)
    → list_any (eqb p) (paired assigns) ≡ list_any (is_assign_of p) assigns
paired_with [] p = refl
paired_with (assign ∷ assigns) p = rw (nat_eq_equiv.symm p assign.pairing, paired_with assigns p) refl

paired_once : (assigns : List Assign) (assign : Assign) → IsDistinct eqb (paired assigns)
    → list_any (is_assign_of assign.pairing) assigns ≡ false
    → IsDistinct eqb (paired (assigns ++ assign ∷ []))
paired_once assigns assign once none =
    rw (map-append (λ (a : Assign). a.pairing) assigns (assign ∷ []))
    (IsDistinct-push nat_eq_equiv (paired assigns) assign.pairing once (paired_with assigns assign.pairing ∙ none))

pub sound-assign : KeepsSound AssignRecord
unfolding code_of_kind assign_of
sound-assign count before fields contents k =
    let t = contents.tables in
    let assigns = contents.assigns in
    let are = k.sound.assigned in
    let made = assign_of before fields in
    let n = one_more assigns made in
    let met = is_met (assign.conditions before fields) k.met in
    let known = (both_of _ _ (met NotGiven)).0 in
    let h =
    assignable (assigns_in before) (pairing_place before (assign.pairing_in fields))
    (met GivenTwice) known in
    let pairing : made.pairing < length t.pairings =
    rw k.tables_are (place-below _ _ (pairings_in before) known) in
    let person : IfSome made.person (λ j. j < length t.persons) = rw k.tables_are (assignee-below (assign.is_nobody (assign.crew_in fields)) _ (assign.crew_in fields) (persons_in before)) in
    let free : list_any (is_assign_of made.pairing) assigns ≡ false = rw (k.assigns_are, h.place_is) h.free in
    record {
      sound = k.sound.sound;
      room = k.sound.room;
      assigned = record {
        named = All-push (λ a. a.pairing < length t.pairings) assigns made are.named pairing;
        assignees =
            All-push (λ a. IfSome a.person (λ j. j < length t.persons)) assigns made are.assignees person;
        once = paired_once assigns made are.once free;
      };
      sectors_are = k.sound.sectors_are;
      few_steps = k.sound.few_steps;
      count_is = omega (arith, k.sound.count_is);
    }

-- ---- steps

pub sound-step : KeepsSound StepRecord
unfolding code_of_kind
sound-step count before fields contents k =
    let met = is_met (step.conditions before fields) k.met in
    let n =
    has_room MOST_STEPS contents.steps (step_of before fields)
    (rw k.steps_are (below _ MOST_STEPS (met NoRoom))) in
    record {
      sound = k.sound.sound;
      room = k.sound.room;
      sectors_are = k.sound.sectors_are;
      assigned = k.sound.assigned;
      few_steps = n.few;
      count_is = omega (arith, k.sound.count_is, n.longer);
    }
