-- Open nodes of a search: parts of a region that are still to be searched.
use Rattle.std.specs.Prelude.{◌≡◌, ℕ, ◌+◌, ◌^◌, ◌<◌, ◌⊎◌, All, IfSome, List, [], ◌∷◌, Option, Some, None, ℤ, ◌-ℤ◌, ◌≤ℤ◌, pos}
use Rattle.roster_model.specs.Problem.{Problem}
use Rattle.roster_model.specs.Settled.{CostsMore, IsWithinCost}
use Rattle.roster_model.specs.Rosters.{Key}
use Rattle.roster_search_regions.specs.Regions.{size_of, IsIn, IsNarrowed, IsRegion, Region}
use Rattle.roster_search_fixing.specs.Bounds.{CostsAtMost}
use Rattle.roster_search.specs.Branches.{IsMatched}
use Rattle.roster_search.specs.declared.visiting.Visited.{Visited}
use Rattle.roster_search.specs.declared.visiting.Visited.TheVariants.{Nothing, Found, Parted}

-- Two parts of the region in which less is left to decide. If a roster of it costs at most so much, one that costs no
-- more is in one of them.
pub record IsParted (problem : Problem) (region : Region) (most : ℤ) (having others : Region) : Type 0 where
  pub is_having : IsRegion problem having
  pub is_others : IsRegion problem others
  pub inside : (places : List ℕ) → IsIn problem having places ⊎ IsIn problem others places
      → IsIn problem region places
  pub all : (places : List ℕ) → IsIn problem region places → CostsAtMost problem most places
      → IsMatched problem (λ roster. IsIn problem having roster ⊎ IsIn problem others roster) places
  pub fewer_having : size_of having < size_of region
  pub fewer_others : size_of others < size_of region

-- Each roster of the region costs more; or one of it that costs at most so much, and a part that has all that
-- do; or two parts that are left to search.
abbrev pub IsVisited : Problem → Region → ℤ → Visited → Type 0
IsVisited problem region most Nothing = CostsMore problem (IsIn problem region) most
IsVisited problem region most (Found roster left) =
    IsWithinCost problem (IsIn problem region) most roster
    × IsNarrowed problem (CostsAtMost problem most) region left
IsVisited problem region most (Parted having others) = IsParted problem region most having others

-- the places are in one of the regions
abbrev pub IsInSome : Problem → List Region → List ℕ → Type 0
IsInSome problem [] places = ⊥
IsInSome problem (region ∷ rest) places = IsIn problem region places ⊎ IsInSome problem rest places

-- regions that are parts of a whole one
pub record ArePartsOf (problem : Problem) (whole : Region) (parts : List Region) : Type 0 where
  pub is_region : IsRegion problem whole
  pub are : All (IsRegion problem) parts
  pub inside : (places : List ℕ) → IsInSome problem parts places → IsIn problem whole places

-- What is left to search of some rosters: if one of them costs at most so much, one that costs no more is in one of
-- the regions, and no others are there.
pub record AreOpenOf (problem : Problem) (Rosters : List ℕ → Type 0) (most : ℤ)
    (left : List Region) : Type 0 where
  pub are : All (IsRegion problem) left
  pub inside : (places : List ℕ) → IsInSome problem left places → Rosters places
  pub all : (places : List ℕ) → Rosters places → CostsAtMost problem most places
      → IsMatched problem (IsInSome problem left) places

-- what a roster costs at most that costs less than the best one so far, and at most so much
abbrev pub limit_of : ℤ → Option Key → ℤ
limit_of most None = most
limit_of most (Some key) = key.cost -ℤ pos 1

-- the search is over: nothing is left, or the best one so far costs no more than is enough
abbrev pub IsOver : ℤ → Option Key → List Region → Type 0
IsOver enough None left = left ≡ []
IsOver enough (Some key) left = (left ≡ []) ⊎ (key.cost ≤ℤ enough)

-- What comes of the search of some rosters: one of the whole that costs at most so much, if one was found, and
-- what is left to search of those that cost less.
pub record IsExplored (problem : Problem) (Whole Rosters : List ℕ → Type 0) (most : ℤ) (best : Option Key)
    (left : List Region) : Type 0 where
  pub found : IfSome best (IsWithinCost problem Whole most)
  pub still : AreOpenOf problem Rosters (limit_of most best) left

-- how much there is to search at most: three times as much with a line more, or a pairing that may be open
abbrev pub weight_of : List Region → ℕ
weight_of [] = 0
weight_of (region ∷ rest) = 3 ^ size_of region + weight_of rest
