-- Lines of a person whose reduced costs are low.
use Rattle.std.specs.Prelude.{◌≡◌, ℕ, ◌<◌, true, false, List, [], ◌++◌, ◌∷◌, length, Some, slice_get, ℤ, ◌+ℤ◌, ◌≤ℤ◌}
use Rattle.roster_model.specs.Lines.{IsLine}
use Rattle.roster_model.specs.Problem.{Problem}
use Rattle.roster_lines_table.specs.Entries.{Entry, sets_of}
use Rattle.roster_lines_table.specs.Person.{AreListedOf}
use Rattle.roster_bases.specs.Bases.{base_of_person, only}
use Rattle.roster_plan_bound.specs.declared.network.Network.{Network}
use Rattle.roster_plan_bound.specs.Chains.{chain_value, IsChain}
use Rattle.roster_plan_bound.specs.Networks.{AreRows, AreValues, IsNetwork}
use Rattle.roster_plan_bound.specs.Reduced.{reduced}

-- the person of a problem, prices, and what a reduced cost may be at most
pub record Cheap : Type 0 where
  pub problem : Problem
  pub person : ℕ
  pub prices : List ℤ
  pub most : ℤ

-- the set is of that person, and its reduced cost is no more than it may be
pub record IsCheap (cheap : Cheap) (problem : Problem) (k : ℕ) (set : List ℕ) : Type 0 where
  pub same : cheap.problem ≡ problem
  pub person : cheap.person ≡ k
  pub most : reduced problem cheap.prices k set ≤ℤ cheap.most

-- the network of the person, and for each pairing what it brings, and the row behind it
pub record IsTabled (problem : Problem) (k : ℕ) (prices : List ℤ) (network : Network) (values : List ℤ)
    (rows : List (List ℤ)) : Type 0 where
  pub person : k < length problem.persons
  pub is : IsNetwork problem k network
  pub are : AreValues problem prices k values
  pub tabled : AreRows problem network values rows
  pub all : length rows ≡ length problem.pairings

-- Where a chain has come to that begins with the pairings: what it has brought, and the state of flight there.
pub record IsAlong (network : Network) (values : List ℤ) (set : List ℕ) (value : ℤ) (state : ℕ) : Type 0 where
  pub inside : state < length network.terms.items
  pub brought : (rest : List ℕ)
      → chain_value network values 0 (set ++ rest) ≡ value +ℤ chain_value network values state rest

-- no chain that begins with the set and the pairing behind it brings less
abbrev pub IsLeastBehind : Network → List ℤ → List ℕ → ℕ → ℤ → Type 0
IsLeastBehind network values set p least =
    (rest : List ℕ) → IsChain network.followers.items network.first (set ++ p ∷ rest)
    → least ≤ℤ chain_value network values 0 (set ++ p ∷ rest)

-- Lines of person k: all whose reduced cost is no more than it may be, if the person is of the base, and else
-- the empty one alone.
pub record AreCheapOf (problem : Problem) (prices : List ℤ) (base k : ℕ) (limit : ℤ)
    (lines : List Entry) : Type 0 where
  pub listed : AreListedOf problem k lines
  pub every : only base (base_of_person problem k) ≡ true
      → (set : List ℕ) → IsLine problem k set → reduced problem prices k set ≤ℤ limit
      → (i : ℕ) × (slice_get (sets_of lines) i ≡ Some set)
  pub none : only base (base_of_person problem k) ≡ false → sets_of lines ≡ [] ∷ []
