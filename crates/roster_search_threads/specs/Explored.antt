-- What comes of open nodes that threads explore.
use Rattle.std.specs.Prelude.{ℕ, ◌⊎◌, All, if◌then◌else◌, List, Option, Some, None, ℤ, int_lt}
use Rattle.roster_model.specs.Problem.{Problem}
use Rattle.roster_model.specs.Rosters.{Key}
use Rattle.roster_search_regions.specs.Regions.{IsIn, IsRegion, Region}
use Rattle.roster_search.specs.Open.{IsExplored, IsInSome}
use Rattle.roster_search.specs.declared.exploring.Explored.{Explored}

-- What comes of the rosters in some parts of a whole region: one of the whole that costs at most so much, and
-- what is left of the cheaper ones.
abbrev pub AreExplored : Problem → Region → List Region → ℤ → Explored → Type 0
AreExplored problem whole nodes most explored =
    IsExplored problem (IsIn problem whole) (IsInSome problem nodes) most explored.best explored.left.items

-- the cheaper of two rosters, if there are both: the first if they cost the same
abbrev pub cheaper_of : Option Key → Option Key → Option Key
cheaper_of None second = second
cheaper_of (Some first) None = Some first
cheaper_of (Some first) (Some second) = if int_lt second.cost first.cost then Some second else Some first

-- the regions are shared out into two lists
pub record AreDealt (problem : Problem) (nodes mine theirs : List Region) : Type 0 where
  pub are_mine : All (IsRegion problem) mine
  pub are_theirs : All (IsRegion problem) theirs
  pub all : (places : List ℕ) → IsInSome problem nodes places
      → IsInSome problem mine places ⊎ IsInSome problem theirs places
  pub inside : (places : List ℕ) → IsInSome problem mine places ⊎ IsInSome problem theirs places
      → IsInSome problem nodes places
