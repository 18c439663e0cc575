-- Lines: the legal sets of a person, in the order of their ascending lists of places, compared from the
-- front; a proper prefix comes first.
use Rattle.std.specs.Prelude.{◌≡◌, ℕ, ◌<◌, false, List, length, slice_get, Some, All, AllPairs}
use Rattle.std.specs.List.Sorted.{IsStrictlyIncreasing}
use Rattle.roster_model.specs.declared.limits.TheConstants.{MOST_LINES}
use Rattle.roster_model.specs.Problem.{Problem}
use Rattle.roster_model.specs.Places.{places_le, set_of}
use Rattle.roster_model.specs.Rules.{IsLegal}

-- the set is a line of person k
pub record IsLine (problem : Problem) (k : ℕ) (set : List ℕ) : Type 0 where
  pub ascending : IsStrictlyIncreasing set
  pub places : All (λ p. p < length problem.pairings) set
  pub legal : IsLegal problem k set

-- the sets stand in their order, no two of them the same
abbrev pub AreOrdered : List (List ℕ) → Type 0
AreOrdered sets = AllPairs (λ a b. places_le b a ≡ false) sets

-- the sets are lines of person k in their order: all of them, or some
pub record AreSomeLines (problem : Problem) (k : ℕ) (sets : List (List ℕ)) : Type 0 where
  pub lines : All (IsLine problem k) sets
  pub ordered : AreOrdered sets

-- the sets are the lines of person k
pub record AreLines (problem : Problem) (k : ℕ) (sets : List (List ℕ)) : Type 0 where
  pub some : AreSomeLines problem k sets
  pub every : (set : List ℕ) → IsLine problem k set → (i : ℕ) × (slice_get sets i ≡ Some set)

-- person k has more lines than there may be
pub record IsCrowded (problem : Problem) (k : ℕ) : Type 0 where
  pub sets : List (List ℕ)
  pub some : AreSomeLines problem k sets
  pub many : MOST_LINES < length sets

-- person k is the first who has
pub record IsFirstCrowded (problem : Problem) (k : ℕ) : Type 0 where
  pub person : k < length problem.persons
  pub crowded : IsCrowded problem k
  pub first : (j : ℕ) → j < k → ¬ IsCrowded problem j

-- the lines of each person, in book order
pub record AreTables (problem : Problem) (tables : List (List (List ℕ))) : Type 0 where
  pub covers : length tables ≡ length problem.persons
  pub each : (k : ℕ) (sets : List (List ℕ)) → slice_get tables k ≡ Some sets → AreLines problem k sets

-- One number for each person, that of a line. The lists of them are the box.
pub record IsInBox (tables : List (List (List ℕ))) (numbers : List ℕ) : Type 0 where
  pub covers : length numbers ≡ length tables
  pub numbered : (k i : ℕ) (sets : List (List ℕ)) → slice_get numbers k ≡ Some i
      → slice_get tables k ≡ Some sets → i < length sets

-- the numbers are those of each person's set in the list of places
pub record AreNumbersOf (tables : List (List (List ℕ))) (places numbers : List ℕ) : Type 0 where
  pub box : IsInBox tables numbers
  pub sets : (k i : ℕ) (sets : List (List ℕ)) → slice_get numbers k ≡ Some i → slice_get tables k ≡ Some sets
      → slice_get sets i ≡ Some (set_of k places)
