-- What holds of the contents of some records without a fault.
use Rattle.std.proofs.Common.{◌≡◌, ℕ, ◌+◌, ◌<◌, ◌≤◌, List, [], ◌∷◌, ◌++◌, length, map, eqb, Bool, true, false, ◌||◌, Option, Some, None, refl, ◌∙◌, arith, length-append}
use Rattle.std.specs.Prelude.{All, IfSome}
use Rattle.std.specs.List.{IsDistinct, list_any}
use Rattle.std.proofs.lemmas.Bool.{eqb-true}
use Rattle.std.proofs.lemmas.List.{length-map}
use Rattle.std.proofs.lemmas.List.Elements.{All-head, All-nil, All-tail, All-weaker}
use Rattle.std.proofs.lemmas.Map.Steps.{length-le_from_distinct_below}
use Rattle.roster_model.specs.declared.limits.TheConstants.{MOST_SECTORS, MOST_STEPS}
use Rattle.roster_model.specs.Record.{Record, Kind, SectorRecord}
use Rattle.roster_model.specs.Calendar.{Period}
use Rattle.roster_model.specs.Problem.{Problem, tables_in}
use Rattle.roster_model.specs.Faults.{code_of_kind}
use Rattle.roster_model.specs.records.Assign.{Assign, assigns_in}
use Rattle.roster_model.specs.records.Duty.{Duty, Holder, OfPairing, OfPerson}
use Rattle.roster_model.specs.records.Sector.{sector_of, sectors_in}
use Rattle.roster_model.specs.records.Step.{steps_in}
use Rattle.roster_problem.specs.Sound.{IsSound, IsHolder, tables_of_period}
use Rattle.roster_book.specs.Draft.{Contents}
use Rattle.roster_book.specs.Flown.{sector_count}
use Rattle.roster_book.proofs.SectorTable.{sector_count_none}
use Rattle.roster_book.proofs.Tables.{contents_with, entries, grown, is_same, weight_count}

-- ---- what one more entry keeps

pub one_more : {X : Type 0} (xs : List X) (x : X) → length (xs ++ x ∷ []) ≡ length xs + 1
one_more {X = X} xs x = omega (arith, length-append {A = X})

-- a table with an entry more, for which there was room
pub record HasRoom {X : Type 0} (most : ℕ) (xs : List X) (x : X) : Type 0 where
  pub longer : length (xs ++ x ∷ []) ≡ length xs + 1
  pub few : length (xs ++ x ∷ []) ≤ most

pub has_room : {X : Type 0} (most : ℕ) (xs : List X) (x : X) → length xs < most → HasRoom most xs x
has_room most xs x h = let longer = one_more xs x in record { longer = longer; few = omega arith }

-- places in a table are places in a longer one
pub places_of_more : {X Y : Type 0} (place_of : X → ℕ) (xs : List X) (ys : List Y) (y : Y)
    → All (λ x. place_of x < length ys) xs → All (λ x. place_of x < length (ys ++ y ∷ [])) xs
places_of_more place_of xs ys y =
    let n = one_more ys y in
    All-weaker (λ x. place_of x < length ys) (λ x. place_of x < length (ys ++ y ∷ [])) (λ x h. omega arith) xs

-- a holder who is there still is where there are more, and so are those of all duties
holder_of_more : {pairings persons more most : ℕ} (holder : Holder) → pairings ≤ more → persons ≤ most
    → IsHolder pairings persons holder → IsHolder more most holder
holder_of_more (OfPairing p) first second h = omega (arith, h)
holder_of_more (OfPerson k) first second h = omega (arith, h)

pub holders_of_more : {pairings persons : ℕ} (more most : ℕ) (duties : List Duty) → pairings ≤ more
    → persons ≤ most → All (λ d. IsHolder pairings persons d.holder) duties
    → All (λ d. IsHolder more most d.holder) duties
holders_of_more {pairings = pairings} {persons = persons} more most duties first second =
    All-weaker (λ d. IsHolder pairings persons d.holder) (λ d. IsHolder more most d.holder)
    (λ d. holder_of_more d.holder first second) duties

-- ---- assignments

abbrev pub paired : List Assign → List ℕ
paired assigns = map (λ assign. assign.pairing) assigns

-- They assign each pairing once, and whom and what they name is there.
pub record AreAssigned (pairings persons : ℕ) (assigns : List Assign) : Type 0 where
  pub named : All (λ assign. assign.pairing < pairings) assigns
  pub assignees : All (λ assign. IfSome assign.person (λ k. k < persons)) assigns
  pub once : IsDistinct eqb (paired assigns)

person_of_more : {persons most : ℕ} (person : Option ℕ) → persons ≤ most → IfSome person (λ k. k < persons)
    → IfSome person (λ k. k < most)
person_of_more None more h = tt
person_of_more (Some k) more h = omega (arith, h)

pub assigned_of_more : {pairings persons : ℕ} (more most : ℕ) (assigns : List Assign) → pairings ≤ more
    → persons ≤ most → AreAssigned pairings persons assigns → AreAssigned more most assigns
assigned_of_more {pairings = pairings} {persons = persons} more most assigns first second are = record {
  named =
      All-weaker (λ assign. assign.pairing < pairings) (λ assign. assign.pairing < more)
      (λ assign l. omega arith) assigns are.named;
  assignees =
      All-weaker (λ assign. IfSome assign.person (λ k. k < persons))
      (λ assign. IfSome assign.person (λ k. k < most))
      (λ assign. person_of_more assign.person second) assigns are.assignees;
  once = are.once;
}

paired-below : (n : ℕ) (assigns : List Assign) (q : ℕ) → All (λ assign. assign.pairing < n) assigns
    → list_any (eqb q) (paired assigns) ≡ true → q < n
paired-below n [] q named h = cc
paired-below n (assign ∷ assigns) q named h =
    let P : Bool → Type 0 =
    λ b. eqb q assign.pairing ≡ b → (b || list_any (eqb q) (paired assigns)) ≡ true → q < n in
    elim (eqb q assign.pairing) as P [
      | true ↦ λ e any. (let own = All-head (λ a. a.pairing < n) assign assigns named in let same : q ≡ assign.pairing = eqb-true _ _ e in omega arith)
      | false ↦ λ e any. paired-below n assigns q (All-tail (λ a. a.pairing < n) assign assigns named) any
    ] refl h

-- they are no more than the pairings
pub few_assigned : (pairings persons : ℕ) (assigns : List Assign) → AreAssigned pairings persons assigns
    → length assigns ≤ pairings
few_assigned pairings persons assigns are =
    let long = length-map assigns (λ (assign : Assign). assign.pairing) in
    let few =
    length-le_from_distinct_below (paired assigns) pairings are.once
    (λ q h. paired-below pairings assigns q are.named h) in
    omega arith

-- ---- the contents

pub weight_once : (given : Option ℕ) → weight_count given ≤ 1
weight_once None = omega arith
weight_once (Some weight) = omega arith

-- The contents of so many records, of which so many are sectors, are sound.
pub record AreSound (count sectors : ℕ) (contents : Contents) : Type 0 where
  pub sound : IsSound contents.tables
  pub room : sectors ≤ MOST_SECTORS
  pub sectors_are : sector_count contents.tables.duties ≡ sectors
  pub assigned : AreAssigned (length contents.tables.pairings)
      (length contents.tables.persons) contents.assigns
  pub few_steps : length contents.steps ≤ MOST_STEPS
  pub count_is : count ≤ 1 + entries contents.tables + length contents.assigns + length contents.steps + sectors

pub sound-none : {period : Period}
    → AreSound 1 0 (record { tables = tables_of_period period; assigns = []; steps = [] })
unfolding IsDistinct
sound-none = record {
  sound = search (arith, All-nil);
  room = omega arith;
  sectors_are = sector_count_none;
  assigned = record { named = All-nil _; assignees = All-nil _; once = tt };
  few_steps = omega arith;
  count_is = omega arith;
}

-- what is known where a record of the kind is taken
pub record IsTaken (count : ℕ) (kind : Kind) (before : List Record) (fields : Record)
    (contents : Contents) : Type 0 where
  pub sound : AreSound count (length (sectors_in before)) contents
  pub tables_are : contents.tables ≡ tables_in before
  pub assigns_are : contents.assigns ≡ assigns_in before
  pub steps_are : contents.steps ≡ steps_in before
  pub met : code_of_kind kind before fields ≡ None

-- Records of the kind keep the contents sound.
abbrev pub KeepsSound : Kind → Type 0
KeepsSound kind =
    (count : ℕ) (before : List Record) (fields : Record) (contents : Contents)
    → IsTaken count kind before fields contents
    → AreSound (count + 1) (length (grown (is_same kind SectorRecord) (sectors_in before) (sector_of before fields))) (contents_with kind before fields contents)

-- they do where a table has an entry more, and sectors and what else is kept are as before
pub sound-more : {count sectors : ℕ} {contents : Contents} {more : Problem} → AreSound count sectors contents
    → IsSound more → sector_count more.duties ≡ sector_count contents.tables.duties
    → AreAssigned (length more.pairings) (length more.persons) contents.assigns
    → entries contents.tables + 1 ≤ entries more
    → AreSound (count + 1) sectors (record contents { tables = more })
sound-more s sound same assigned longer = record {
  sound = sound;
  room = s.room;
  sectors_are = same ∙ s.sectors_are;
  assigned = assigned;
  few_steps = s.few_steps;
  count_is = omega (arith, s.count_is);
}
