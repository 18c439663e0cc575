-- Duties by their positions in a list of duties.
use Rattle.std.specs.Prelude.{◌≡◌, ℕ, ◌+◌, ◌<◌, ◌≤◌, ◌==◌, Bool, false, if◌then◌else◌, List, [], ◌∷◌, ◌++◌, Option, Some, None, filter, length, slice_get, All, AllPairs}
use Rattle.std.specs.List.Sorted.{IsStrictlyIncreasing}
use Rattle.std.specs.Option.{option_map_or, option_to_list}
use Rattle.roster_model.specs.declared.limits.TheConstants.{MOST_DUTIES}
use Rattle.roster_model.specs.Problem.{Problem, precedes}
use Rattle.roster_model.specs.Faults.{IsFaultless}
use Rattle.roster_problem.specs.Sectors.{AreSectors}
use Rattle.roster_problem.specs.Sound.{IsSound}
use Rattle.roster_model.specs.Rules.{is_among}
use Rattle.roster_model.specs.records.Duty.{Duty, is_held_by_pairing, is_held_by_person}
use Rattle.roster_model.specs.records.Leave.{is_leave_of}

-- no duty stands after one that it precedes
abbrev pub IsInOrder : List Duty → Type 0
IsInOrder duties = AllPairs (λ a b. precedes b a ≡ false) duties

-- each duty ends after it begins
abbrev pub AreTimed : List Duty → Type 0
AreTimed duties = All (λ duty. duty.report < duty.release) duties

-- each duty's sectors lie in it, one after another
abbrev pub AreFlown : List Duty → Type 0
AreFlown duties = All (λ duty. AreSectors duty.report duty.release duty.sectors) duties

-- the elements at the positions, one after another
abbrev pub picked : {X : Type 0} → List X → List ℕ → List X
picked xs [] = []
picked xs (i ∷ positions) = option_to_list (slice_get xs i) ++ picked xs positions

-- whether there is an element at position i, and it passes the test
abbrev pub passes_at : {X : Type 0} → (X → Bool) → List X → ℕ → Bool
passes_at test xs i = option_map_or test (slice_get xs i) false

-- positions of duties in the list, no more than a book may have
pub record ArePositions (duties : List Duty) (positions : List ℕ) : Type 0 where
  pub within : All (λ i. i < length duties) positions
  pub bound : length positions ≤ MOST_DUTIES

-- the positions, in ascending order, of the elements that pass the test; the first element is at i
abbrev pub positions_where : {X : Type 0} → (X → Bool) → ℕ → List X → List ℕ
positions_where test i [] = []
positions_where test i (x ∷ xs) =
    if test x then i ∷ positions_where test (i + 1) xs else positions_where test (i + 1) xs

-- The positions are those of just the elements that pass the test, in ascending order.
pub record ArePositionsOf {X : Type 0} (test : X → Bool) (xs : List X) (positions : List ℕ) : Type 0 where
  pub value : positions ≡ positions_where test 0 xs
  pub elements : picked xs positions ≡ filter test xs
  pub ascending : IsStrictlyIncreasing positions
  pub members : (i : ℕ) → is_among positions i ≡ passes_at test xs i
  pub within : All (λ i. i < length xs) positions
  pub bound : length positions ≤ length xs

-- whether it is the place p, if there is one
abbrev pub is_at : ℕ → Option ℕ → Bool
is_at p None = false
is_at p (Some q) = q == p

-- There is a list for each place, with the positions of the elements that belong to it.
pub record IsIndex {X : Type 0} (belongs : ℕ → X → Bool) (places : ℕ) (xs : List X)
    (lists : List (List ℕ)) : Type 0 where
  pub long : length lists ≡ places
  pub each : (p : ℕ) → p < places → slice_get lists p ≡ Some (positions_where (belongs p) 0 xs)

-- the duty belongs to the pairing at place p
abbrev pub is_of_pairing : ℕ → Duty → Bool
is_of_pairing p duty = is_held_by_pairing p duty.holder

-- the duty is fixed for the person at place k
abbrev pub is_of_person : ℕ → Duty → Bool
is_of_person k duty = is_held_by_person k duty.holder

-- what a problem with its indexes keeps
pub record IsKept (problem : Problem) (by_pairing by_person on_leave : List (List ℕ)) : Type 0 where
  pub sound : IsSound problem
  pub faultless : IsFaultless problem
  pub ordered : IsInOrder problem.duties
  pub timed : AreTimed problem.duties
  pub flown : AreFlown problem.duties
  pub of_pairings : IsIndex is_of_pairing (length problem.pairings) problem.duties by_pairing
  pub of_persons : IsIndex is_of_person (length problem.persons) problem.duties by_person
  pub leaves : IsIndex is_leave_of (length problem.persons) problem.leaves on_leave
