-- What is found of the cheapest rosters of a region, and of the first among them.
use Rattle.std.specs.Prelude.{◌≡◌, ℕ, false, IfSome, List, Option, Some, None, ℤ, ◌≤ℤ◌, ◌<ℤ◌, ◌⊎◌}
use Rattle.roster_model.specs.Costs.{cost_of}
use Rattle.roster_model.specs.Problem.{Problem}
use Rattle.roster_model.specs.Rosters.{IsLegalRoster, Key, key_le}
use Rattle.roster_model.specs.Settled.{CostsMore, IsHeld, IsNotAfter, IsWithinCost}

-- every legal roster in the region costs at least so much
abbrev pub CostsAtLeast : Problem → (List ℕ → Type 0) → ℤ → Type 0
CostsAtLeast problem Region least =
    (others : List ℕ) → IsLegalRoster problem others → Region others → least ≤ℤ cost_of problem others

-- the key is that of a legal roster in the region, and each roster there costs at least as much
pub record IsCheapest (problem : Problem) (Region : List ℕ → Type 0) (key : Key) : Type 0 where
  pub held : IsHeld problem key
  pub inside : Region key.places
  pub least : CostsAtLeast problem Region key.cost

-- a cheapest roster that costs less than the limit, or none, and then every one costs at least that
abbrev pub IsCheapestBelow : Problem → (List ℕ → Type 0) → ℤ → Option Key → Type 0
IsCheapestBelow problem Region limit None = CostsAtLeast problem Region limit
IsCheapestBelow problem Region limit (Some key) = IsCheapest problem Region key × (key.cost <ℤ limit)

-- A legal roster in the region that costs at most so much: one than which none costs less, or one that costs
-- no more than is enough; or none, and then every one costs more.
abbrev pub IsCheapestWithin : Problem → (List ℕ → Type 0) → ℤ → ℤ → Option Key → Type 0
IsCheapestWithin problem Region most enough None = CostsMore problem Region most
IsCheapestWithin problem Region most enough (Some key) =
    IsWithinCost problem Region most key × ((key.cost ≤ℤ enough) ⊎ CostsAtLeast problem Region key.cost)

-- the key is that of a legal roster in the region that costs less than the limit
pub record IsKnownBelow (problem : Problem) (Region : List ℕ → Type 0) (limit : ℤ) (key : Key) : Type 0 where
  pub held : IsHeld problem key
  pub inside : Region key.places
  pub below : key.cost <ℤ limit

-- the key is that of a legal roster in the region, and isn't after that of any other there
pub record IsLeast (problem : Problem) (Region : List ℕ → Type 0) (key : Key) : Type 0 where
  pub held : IsHeld problem key
  pub inside : Region key.places
  pub least : IsNotAfter problem Region key

-- the least roster if it costs less than the limit, or none, and then every one costs at least that
abbrev pub IsLeastBelow : Problem → (List ℕ → Type 0) → ℤ → Option Key → Type 0
IsLeastBelow problem Region limit None = CostsAtLeast problem Region limit
IsLeastBelow problem Region limit (Some key) = IsLeast problem Region key × (key.cost <ℤ limit)

-- what is found, if anything, comes before the known roster
abbrev pub IsBefore : Key → Option Key → Type 0
IsBefore known found = IfSome found (λ roster. key_le known roster ≡ false)
