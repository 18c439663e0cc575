-- The numbers of a roster that is given by assignments.
use Rattle.std.proofs.Common.{◌≡◌, ℕ, ◌<◌, ◌≤◌, Bool, true, false, cond, List, [], ◌∷◌, length, Option, Some, None, refl, ◌∙◌, arith}
use Rattle.std.specs.Prelude.{All, IfSome, nat_lt, position, slice_get, unwrap_or}
use Rattle.std.specs.List.{find, position_or_len, range_with_len}
use Rattle.std.proofs.lemmas.Bool.Decides.{nat_tests}
use Rattle.std.proofs.lemmas.Option.{slice_get_past}
use Rattle.std.proofs.lemmas.List.Folds.{find_at}
use Rattle.std.specs.Option.{option_and_then}
use Rattle.std.proofs.lemmas.List.Elements.{All-head, All-map, All-tail}
use Rattle.std.proofs.lemmas.List.FromFn.{length-map-range_with_len}
use Rattle.roster_model.specs.records.Assign.{Assign, assigned_by, assigned_number, is_assign_of}
use Rattle.roster_book.proofs.Soundness.{AreAssigned}

assignee_at_most : (persons : ℕ) (person : Option ℕ) → IfSome person (λ k. k < persons)
    → unwrap_or person persons ≤ persons
assignee_at_most persons None h = omega arith
assignee_at_most persons (Some k) h = omega (arith, h)

number_at_most : (persons : ℕ) (assigns : List Assign) (p : ℕ)
    → All (λ assign. IfSome assign.person (λ k. k < persons)) assigns
    → assigned_number persons assigns p ≤ persons
number_at_most persons [] p h = omega arith
number_at_most persons (assign ∷ assigns) p h =
    let P : Bool → Type 0 = λ b. unwrap_or (option_and_then (λ (a : Assign). a.person) (cond b (Some assign) (find (is_assign_of p) assigns))) persons ≤ persons in
    elim (is_assign_of p assign) as P [
      | true ↦ assignee_at_most persons assign.person (All-head (λ a. IfSome a.person (λ k. k < persons)) assign assigns h)
      | false ↦ number_at_most persons assigns p (All-tail (λ a. IfSome a.person (λ k. k < persons)) assign assigns h)
    ]

-- there is one for each pairing
pub length-assigned_by : (persons pairings : ℕ) (assigns : List Assign)
    → length (assigned_by persons pairings assigns) ≡ pairings
length-assigned_by persons pairings assigns =
    length-map-range_with_len (assigned_number persons assigns) 0 pairings

-- each is a person's, or that of nobody
pub assigned_at_most : (pairings persons : ℕ) (assigns : List Assign) → AreAssigned pairings persons assigns
    → All (λ x. x ≤ persons) (assigned_by persons pairings assigns)
assigned_at_most pairings persons assigns are =
    All-map (λ x. x ≤ persons) (assigned_number persons assigns) (range_with_len 0 pairings)
    (λ i p l. number_at_most persons assigns _ are.assignees)

-- ---- one number, by the place of its assignment

find_by : {X : Type 0} (test : X → Bool) (xs : List X) (within : Bool)
    → nat_lt (position_or_len test xs) (length xs) ≡ within
    → find test xs ≡ option_and_then (slice_get xs) (cond within (Some (position_or_len test xs)) None)
find_by test xs true h = find_at test xs
find_by test xs false h =
    find_at test xs ∙ slice_get_past xs (position_or_len test xs) (grind (arith, nat_tests))

find_position : {X : Type 0} (test : X → Bool) (xs : List X)
    → find test xs ≡ option_and_then (slice_get xs) (position test xs)
find_position test xs = find_by test xs (nat_lt (position_or_len test xs) (length xs)) refl

-- the pairing is assigned, or it isn't
pub number-assigned : (persons : ℕ) (assigns : List Assign) (p i : ℕ) (assign : Assign)
    → position (is_assign_of p) assigns ≡ Some i → slice_get assigns i ≡ Some assign
    → assigned_number persons assigns p ≡ unwrap_or assign.person persons
number-assigned persons assigns p i assign at there =
    rw (find_position (is_assign_of p) assigns, at, there) refl

pub number-open : (persons : ℕ) (assigns : List Assign) (p : ℕ) → position (is_assign_of p) assigns ≡ None
    → assigned_number persons assigns p ≡ persons
number-open persons assigns p none = rw (find_position (is_assign_of p) assigns, none) refl
