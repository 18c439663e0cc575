-- Lines as contracts see them.
use Rattle.std.specs.Prelude.{◌≡◌, ℕ, ℤ, ◌<◌, ◌≤◌, true, false, List, [], ◌∷◌, ◌++◌, Some, length, map, slice_get, slice_index_or}
use Rattle.roster_model.specs.Places.{places_le}

-- a line's set, and what it costs
pub record Entry : Type 0 where
  pub set : List ℕ
  pub cost : ℤ

abbrev pub entry_of : List ℕ → ℤ → Entry
entry_of set cost = record { set = set; cost = cost }

-- the sets of some lines
abbrev pub sets_of : List Entry → List (List ℕ)
sets_of entries = map (λ entry. entry.set) entries

-- what they cost
abbrev pub costs_of : List Entry → List ℤ
costs_of entries = map (λ entry. entry.cost) entries

-- the set of line i
abbrev pub set_at : List Entry → ℕ → List ℕ
set_at entries i = slice_index_or (sets_of entries) i []

-- that set with one more pairing behind
abbrev pub longer : List Entry → ℕ → ℕ → List ℕ
longer entries i p = set_at entries i ++ p ∷ []

-- so many of the sets stand before the mark, the first ones
pub record IsCut (sets : List (List ℕ)) (mark : List ℕ) (count : ℕ) : Type 0 where
  pub bound : count ≤ length sets
  pub before : (i : ℕ) (set : List ℕ) → i < count → slice_get sets i ≡ Some set → places_le mark set ≡ false
  pub behind : (i : ℕ) (set : List ℕ) → count ≤ i → slice_get sets i ≡ Some set → places_le mark set ≡ true
