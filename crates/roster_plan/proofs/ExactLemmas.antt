-- Why a search of the lines of cheap rosters speaks of all rosters.
use Rattle.std.proofs.Common.{ℕ, List, subst, inl, inr, arith, ℤ, pos, ◌+ℤ◌, ◌<ℤ◌, ◌≤ℤ◌}
use Rattle.std.proofs.lemmas.Int.{ints}
use Rattle.roster_model.specs.Costs.{cost_of}
use Rattle.roster_model.specs.Problem.{Problem}
use Rattle.roster_model.specs.Rosters.{Key, key_of}
use Rattle.roster_model.specs.Settled.{Anywhere, IsBest, IsHeld, IsLowerBound, IsNotAfter}
use Rattle.roster_model.proofs.SettledLemmas.{held-key}
use Rattle.roster_lines_table.specs.Entries.{Entry}
use Rattle.roster_lines_table.specs.Person.{IsOfTable}
use Rattle.roster_bases.specs.Bases.{only}
use Rattle.roster_bases.specs.Homes.{EachHomeRoster, IsHome, IsHomeBound}
use Rattle.roster_search_least.specs.Least.{CostsAtLeast, IsLeast}
use Rattle.roster_search_least.proofs.FindLemmas.{cost_cases}
use Rattle.roster_search_least.proofs.Keys.{by_cost, no_dearer}

-- each roster of the base that costs at most so much has lines of the table
abbrev pub HasAllWithin : Problem → ℕ → List (List Entry) → ℤ → Type 0
HasAllWithin problem base table most =
    EachHomeRoster problem (only base) (λ places. cost_of problem places ≤ℤ most → IsOfTable table places)

-- so the least of the table is the best of the base, if it costs so little,
pub best_of_base : (problem : Problem) (base : ℕ) (table : List (List Entry)) (most limit : ℤ) (key : Key)
    → HasAllWithin problem base table most → limit ≤ℤ (most +ℤ pos 1)
    → IsLeast problem (IsOfTable table) key → key.cost <ℤ limit
    → IsHeld problem key × IsNotAfter problem (IsHome problem (only base)) key
best_of_base problem base table most limit key all near least cheap = (
  least.held,
  λ others legal home. elim (cost_cases most (cost_of problem others)) [
    | inl within ↦ least.least others legal (all others legal home within)
    | inr above ↦ by_cost key (key_of problem others) (omega (arith, ints, above, near, cheap))
  ],
)

-- and no roster of the base costs so little if none of the table does
pub none_below : (problem : Problem) (base : ℕ) (table : List (List Entry)) (most limit : ℤ)
    → HasAllWithin problem base table most → limit ≤ℤ (most +ℤ pos 1)
    → CostsAtLeast problem (IsOfTable table) limit → IsHomeBound problem (only base) limit
none_below problem base table most limit all near above places legal home =
    elim (cost_cases most (cost_of problem places)) [
      | inl within ↦ above places legal (all places legal home within)
      | inr dear ↦ omega (arith, ints, dear, near)
    ]

-- no roster costs less than the best one,
pub best_is_bound : (problem : Problem) (key : Key) → IsNotAfter problem Anywhere key
    → IsLowerBound problem key.cost
best_is_bound problem key best places legal = no_dearer key (key_of problem places) (best places legal tt)

-- nor any of a base less than the best one of it,
pub best_is_home_bound : (problem : Problem) (base : ℕ) (key : Key)
    → IsNotAfter problem (IsHome problem (only base)) key → IsHomeBound problem (only base) key.cost
best_is_home_bound problem base key best places legal home =
    no_dearer key (key_of problem places) (best places legal home)

-- and it is the best of the definitions
pub is_best : (problem : Problem) (key : Key) → IsHeld problem key → IsNotAfter problem Anywhere key
    → IsBest problem key.places
is_best problem key is best = record {
  is_legal = is.legal;
  inside = tt;
  least = subst (IsNotAfter problem Anywhere) (held-key problem key is) best;
}
