-- How the first of a given roster and those of a region that cost as little is found, one pairing after
-- another.
use Rattle.std.specs.Prelude.{◌≡◌, ℕ, ◌+◌, ◌<◌, true, List, Option, None, Some, take, ◌≤ℤ◌, ◌⊎◌}
use Rattle.roster_model.specs.Costs.{cost_of}
use Rattle.roster_model.specs.Problem.{Problem}
use Rattle.roster_model.specs.Places.{places_le}
use Rattle.roster_model.specs.Rosters.{IsLegalRoster, Key}
use Rattle.roster_model.specs.Settled.{IsWithinCost}
use Rattle.roster_search_regions.specs.Regions.{Has, IsIn, IsRegion, Region}

-- the roster is legal, and each in the region has the same numbers before place p
pub record AgreeBefore (problem : Problem) (p : ℕ) (region : Region) (key : Key) : Type 0 where
  pub is_region : IsRegion problem region
  pub cost : key.cost ≡ cost_of problem key.places
  pub legal : IsLegalRoster problem key.places
  pub same : (others : List ℕ) → IsIn problem region others → take p others ≡ take p key.places

-- The new region is part of the old one. It has each roster of that which costs no more than the new key,
-- but for those that aren't before the key in the list. The new key is the old one or that of a roster of
-- the old region, costs no more than the old one, and isn't behind it in the list.
pub record GoesOn (problem : Problem) (old : Region) (before : Key) (new : Region)
    (after : Key) : Type 0 where
  pub inside : (others : List ℕ) → IsIn problem new others → IsIn problem old others
  pub from : (before ≡ after) ⊎ IsIn problem old after.places
  pub cheap : after.cost ≤ℤ before.cost
  pub earlier : places_le after.places before.places ≡ true
  pub kept : (others : List ℕ) → IsIn problem old others → cost_of problem others ≤ℤ after.cost
      → IsIn problem new others ⊎ (places_le after.places others ≡ true)

-- the same, and the region now agrees at place p too
pub record IsSettledAt (problem : Problem) (p : ℕ) (old : Region) (before : Key) (new : Region)
    (after : Key) : Type 0 where
  pub agree : AgreeBefore problem (p + 1) new after
  pub on : GoesOn problem old before new after

-- at place p the places have a number before that one
abbrev pub HasEarlier : ℕ → ℕ → List ℕ → Type 0
HasEarlier number p places = (j : ℕ) × (j < number) × Has j p places

-- the roster has a later number at the place
abbrev pub HasLater : ℕ → ℕ → List ℕ → Type 0
HasLater number p places = (n : ℕ) × (number < n) × Has n p places

-- The roster has that number at the place; or another one of the region, which costs no more and was found, and the
-- roster has a later one.
abbrev pub IsFoundAt : Problem → ℕ → ℕ → Region → Key → Option Key → Type 0
IsFoundAt problem p number region key None = Has number p key.places
IsFoundAt problem p number region key (Some found) =
    IsWithinCost problem (IsIn problem region) key.cost found × Has number p found.places
    × HasLater number p key.places
