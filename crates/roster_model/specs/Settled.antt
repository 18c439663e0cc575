-- Which roster is the best, what a search says of some rosters, and what no roster costs less than. Some
-- rosters are given by a region: a condition on lists of places.
use Rattle.std.specs.Prelude.{◌≡◌, ◌⊎◌, ℕ, true, List, Option, Some, None, ℤ, ◌≤ℤ◌, ◌<ℤ◌, IfSome}
use Rattle.roster_model.specs.Problem.{Problem}
use Rattle.roster_model.specs.Costs.{cost_of}
use Rattle.roster_model.specs.Rosters.{IsLegalRoster, Key, key_of, key_le}

-- the key is that of a legal roster
pub record IsHeld (problem : Problem) (key : Key) : Type 0 where
  pub legal : IsLegalRoster problem key.places
  pub cost : key.cost ≡ cost_of problem key.places

-- it isn't after that of any legal roster in the region
abbrev pub IsNotAfter : Problem → (List ℕ → Type 0) → Key → Type 0
IsNotAfter problem Region key =
    (others : List ℕ) → IsLegalRoster problem others → Region others → key_le key (key_of problem others) ≡ true

-- The new key is that of a legal roster, isn't after the old one, if there is one, and isn't after that of
-- any legal roster in the region. It lies where the last condition says, if it isn't the old one.
pub record Settles (problem : Problem) (Region Own : List ℕ → Type 0) (old : Option Key)
    (new : Key) : Type 0 where
  pub held : IsHeld problem new
  pub kept : IfSome old (λ key. key_le new key ≡ true)
  pub least : IsNotAfter problem Region new
  pub from : (old ≡ Some new) ⊎ Own new.places

-- the legal roster in the region whose key isn't after that of any other there
pub record IsLeastIn (problem : Problem) (Region : List ℕ → Type 0) (places : List ℕ) : Type 0 where
  pub is_legal : IsLegalRoster problem places
  pub inside : Region places
  pub least : IsNotAfter problem Region (key_of problem places)

-- the region of all lists
abbrev pub Anywhere : List ℕ → Type 0
Anywhere places = Unit {0}

-- the best roster: the legal roster whose key isn't after that of any legal roster
abbrev pub IsBest : Problem → List ℕ → Type 0
IsBest problem places = IsLeastIn problem Anywhere places

-- a legal roster in the region that costs at most so much
pub record IsWithinCost (problem : Problem) (Region : List ℕ → Type 0) (most : ℤ) (key : Key) : Type 0 where
  pub held : IsHeld problem key
  pub inside : Region key.places
  pub within : key.cost ≤ℤ most

-- every legal roster in the region costs more
abbrev pub CostsMore : Problem → (List ℕ → Type 0) → ℤ → Type 0
CostsMore problem Region most =
    (others : List ℕ) → IsLegalRoster problem others → Region others → most <ℤ cost_of problem others

-- some legal roster in the region that costs at most so much, or none, and then every one costs more
abbrev pub IsFoundWithin : Problem → (List ℕ → Type 0) → ℤ → Option Key → Type 0
IsFoundWithin problem Region most None = CostsMore problem Region most
IsFoundWithin problem Region most (Some key) = IsWithinCost problem Region most key

-- no legal roster costs less
abbrev pub IsLowerBound : Problem → ℤ → Type 0
IsLowerBound problem bound =
    (places : List ℕ) → IsLegalRoster problem places → bound ≤ℤ cost_of problem places
