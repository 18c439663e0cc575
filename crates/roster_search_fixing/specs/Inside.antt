-- Whether a list of places is in a region, part by part.
use Rattle.std.specs.Prelude.{◌≡◌, ℕ, ◌<◌, ◌≤◌, true, List, length}
use Rattle.roster_model.specs.Places.{open_number, set_of}
use Rattle.roster_model.specs.Problem.{Problem}
use Rattle.roster_model.specs.Rules.{is_among}
use Rattle.roster_search_regions.specs.Regions.{lines_of, open_in, Has, HasNot, Region}
use Rattle.roster_search_regions.specs.Trees.{Offers}

-- pairings are open that must be, and none that must not
pub record AreStatesKept (problem : Problem) (region : Region) (places : List ℕ) : Type 0 where
  pub left_open : (p : ℕ) → is_among region.left_open p ≡ true → Has (open_number problem) p places
  pub flown : (p : ℕ) → is_among region.flown p ≡ true → HasNot (open_number problem) p places

-- no fewer pairings are open than may be, and no more
abbrev pub IsCountKept : Problem → Region → List ℕ → Type 0
IsCountKept problem region places =
    (region.least_open ≤ open_in problem places) × (open_in problem places ≤ region.most_open)

-- each person has one of their lines
abbrev pub AreChosen : Problem → Region → List ℕ → Type 0
AreChosen problem region places =
    (k : ℕ) → k < length problem.persons → Offers (lines_of region k) (set_of k places)
