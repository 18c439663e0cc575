-- Parts of a box: the rosters of some bases. No line has another base's pairing, so parts share neither persons
-- nor pairings.
use Rattle.std.specs.Prelude.{◌≡◌, ℕ, ◌-◌, ◌^◌, ◌<◌, ◌≤◌, All, Bool, true, ◌==◌, if◌then◌else◌, List, Option, Some, None, length, pos, slice_get}
use Rattle.roster_model.specs.Places.{set_of}
use Rattle.roster_model.specs.Problem.{Problem}
use Rattle.roster_model.specs.Rosters.{IsLegalRoster, Key}
use Rattle.roster_lines_table.specs.Entries.{Entry, sets_of}
use Rattle.roster_lines_table.specs.Person.{lines_at}
use Rattle.roster_search_regions.specs.Regions.{IsIn, IsRegion, Region}
use Rattle.roster_bases.specs.Bases.{base_of_person, only}
use Rattle.roster_bases.specs.Homes.{IsHome}
use Rattle.roster_search_least.specs.Least.{IsLeastBelow}

-- the set is a line of person k whose number is in the range
abbrev pub IsNumbered : List (List Entry) → ℕ → ℕ × ℕ → List ℕ → Type 0
IsNumbered table k range set =
    (i : ℕ) × (range.0 ≤ i) × (i < range.1) × (slice_get (sets_of (lines_at table k)) i ≡ Some set)

-- a legal roster in which the persons of some bases have lines in their ranges, and the others no pairings
pub record IsInPart (problem : Problem) (table : List (List Entry)) (ranges : List (ℕ × ℕ)) (part : ℕ → Bool)
    (places : List ℕ) : Type 0 where
  pub legal : IsLegalRoster problem places
  pub numbered : (k : ℕ) (range : ℕ × ℕ) → slice_get ranges k ≡ Some range
      → part (base_of_person problem k) ≡ true → IsNumbered table k range (set_of k places)
  pub home : IsHome problem part places

-- the ranges of the persons of the base, and of everybody else the one of the empty line
pub record AreOwnRanges (problem : Problem) (base : ℕ) (ranges own : List (ℕ × ℕ)) : Type 0 where
  pub covers : length own ≡ length ranges
  pub each : (k : ℕ) (range : ℕ × ℕ) → slice_get ranges k ≡ Some range
      → slice_get own k ≡ Some (if base_of_person problem k == base then range else (0, 1))

-- a region with just those rosters of one base
pub record IsRegionOfPart (problem : Problem) (table : List (List Entry)) (ranges : List (ℕ × ℕ)) (base : ℕ)
    (region : Region) : Type 0 where
  pub is_region : IsRegion problem region
  pub inside : (places : List ℕ) → IsIn problem region places
      → IsInPart problem table ranges (only base) places
  pub all : (places : List ℕ) → IsInPart problem table ranges (only base) places
      → IsIn problem region places

-- a base, and the least roster in which only its persons fly, if there is one
abbrev pub IsBasePart : Problem → List (List Entry) → List (ℕ × ℕ) → ℕ × Option Key → Type 0
IsBasePart problem table ranges found =
    IsLeastBelow problem (IsInPart problem table ranges (only found.0)) (pos (2 ^ 63 - 1)) found.1

abbrev pub AreBaseParts : Problem → List (List Entry) → List (ℕ × ℕ) → List (ℕ × Option Key) → Type 0
AreBaseParts problem table ranges parts = All (IsBasePart problem table ranges) parts

-- some base has no roster with lines in the ranges
abbrev pub IsWithoutPart : Problem → List (List Entry) → List (ℕ × ℕ) → Type 0
IsWithoutPart problem table ranges =
    (base : ℕ) × IsLeastBelow problem (IsInPart problem table ranges (only base)) (pos (2 ^ 63 - 1)) None

-- for each of so many persons the range of all lines
pub record AreWhole (table : List (List Entry)) (count : ℕ) (ranges : List (ℕ × ℕ)) : Type 0 where
  pub covers : length ranges ≡ count
  pub each : (k : ℕ) → k < count → slice_get ranges k ≡ Some (0, length (lines_at table k))
