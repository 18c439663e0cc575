-- What a region is parted by.
use Rattle.std.specs.Prelude.{◌≡◌, ◌⊎◌, ℕ, ◌+◌, ◌<◌, ◌≤◌, ◌≤ℤ◌, List, length}
use Rattle.roster_model.specs.Costs.{cost_of}
use Rattle.roster_model.specs.Places.{open_number}
use Rattle.roster_model.specs.Problem.{Problem}
use Rattle.roster_search_regions.specs.Regions.{lines_of, Has, HasNot, HasOpenAtLeast, HasOpenAtMost, IsIn, IsRegion, IsSplit, IsUndecidedAt, Region}
use Rattle.roster_search_regions.specs.declared.split.Split.{Split}
use Rattle.roster_search_regions.specs.declared.split.Split.TheVariants.{Holder, Flown, Count}

-- the roster is on the first side: the person has the pairing, or the pairing is flown, or at most so many are open
abbrev pub IsOnFirst : Problem → Split → List ℕ → Type 0
IsOnFirst problem (Holder k p) places = Has k p places
IsOnFirst problem (Flown p) places = HasNot (open_number problem) p places
IsOnFirst problem (Count count) places = HasOpenAtMost problem count places

-- the roster is on the other side
abbrev pub IsOnOther : Problem → Split → List ℕ → Type 0
IsOnOther problem (Holder k p) places = HasNot k p places
IsOnOther problem (Flown p) places = Has (open_number problem) p places
IsOnOther problem (Count count) places = HasOpenAtLeast problem (count + 1) places

-- it isn't decided on which side the rosters of the region are
abbrev pub IsBranch : Problem → Region → Split → Type 0
IsBranch problem region (Holder k p) =
    IsSplit region k p × (k < length problem.persons) × (p < length problem.pairings)
IsBranch problem region (Flown p) = IsUndecidedAt region p × (p < length problem.pairings)
IsBranch problem region (Count count) = (region.least_open ≤ count) × (count < region.most_open)

-- one of some rosters costs no more than the places
pub record IsMatched (problem : Problem) (Rosters : List ℕ → Type 0) (places : List ℕ) : Type 0 where
  pub roster : List ℕ
  pub inside : Rosters roster
  pub cost : cost_of problem roster ≤ℤ cost_of problem places

-- What is left of the region without its first side: of each roster on the other side it has the roster, or the
-- first side has one that costs no more.
pub record IsOtherSide (problem : Problem) (branch : Split) (region other : Region) : Type 0 where
  pub is_region : IsRegion problem other
  pub inside : (places : List ℕ) → IsIn problem other places → IsIn problem region places
  pub all : (places : List ℕ) → IsIn problem region places → IsOnOther problem branch places
      → IsIn problem other places
      ⊎ IsMatched problem (λ roster. IsIn problem region roster × IsOnFirst problem branch roster) places

-- two persons may have the same lines, which cost the same
abbrev pub AreAlike : Region → ℕ → ℕ → Type 0
AreAlike region j k = lines_of region j ≡ lines_of region k
