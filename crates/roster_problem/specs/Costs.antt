-- A table of cost units.
use Rattle.std.specs.Prelude.{◌≡◌, ℕ, ℤ, ◌+◌, ◌*◌, ◌<◌, List, Option, None, All, slice_index_or}
use Rattle.roster_model.specs.declared.limits.TheConstants.{MOST_PERSONS, MOST_PAIRINGS}
use Rattle.roster_model.specs.records.Cost.{Cost, units_given}

-- what the table has for person k and pairing p: each person has a row of MOST_PAIRINGS
abbrev pub units_at : List (Option ℤ) → ℕ → ℕ → Option ℤ
units_at table k p = slice_index_or table (k * MOST_PAIRINGS + p) None

-- the table has the units of each person with each pairing
pub record AreUnitsOf (costs : List Cost) (table : List (Option ℤ)) : Type 0 where
  pub persons : All (λ cost. cost.person < MOST_PERSONS) costs
  pub pairings : All (λ cost. cost.pairing < MOST_PAIRINGS) costs
  pub each : (k p : ℕ) → p < MOST_PAIRINGS → units_at table k p ≡ units_given costs k p
