-- What lines cost, and the lines of all persons.
use Rattle.std.specs.Prelude.{◌≡◌, ℕ, ◌<◌, ◌≤◌, List, [], Some, length, map, slice_get, slice_index_or, All}
use Rattle.roster_model.specs.declared.limits.TheConstants.{MOST_LINES}
use Rattle.roster_model.specs.Costs.{line_cost}
use Rattle.roster_model.specs.Lines.{AreSomeLines, AreTables}
use Rattle.roster_model.specs.Places.{set_of}
use Rattle.roster_model.specs.Problem.{Problem}
use Rattle.roster_lines_table.specs.Entries.{Entry, sets_of}

-- what each costs is what its set does with person k
abbrev pub AreCosted : Problem → ℕ → List Entry → Type 0
AreCosted problem k lines = All (λ entry. entry.cost ≡ line_cost problem k entry.set) lines

-- the lines of person k
abbrev pub lines_at : List (List Entry) → ℕ → List Entry
lines_at table k = slice_index_or table k []

-- the table has the lines of each person with what they cost, nobody's more than there may be
pub record IsTableOf (problem : Problem) (table : List (List Entry)) : Type 0 where
  pub sets : AreTables problem (map sets_of table)
  pub costs : (k : ℕ) (lines : List Entry) → slice_get table k ≡ Some lines → AreCosted problem k lines
  pub few : All (λ lines. length lines ≤ MOST_LINES) table

-- lines of person k in their order with what they cost, the empty one first, no more than there may be
pub record AreListedOf (problem : Problem) (k : ℕ) (lines : List Entry) : Type 0 where
  pub some : AreSomeLines problem k (sets_of lines)
  pub first : slice_get (sets_of lines) 0 ≡ Some []
  pub costs : AreCosted problem k lines
  pub few : length lines ≤ MOST_LINES

-- the table has some lines of each person, all of them or not
pub record AreListed (problem : Problem) (table : List (List Entry)) : Type 0 where
  pub covers : length table ≡ length problem.persons
  pub each : (k : ℕ) (lines : List Entry) → slice_get table k ≡ Some lines → AreListedOf problem k lines

-- in the places each person has a line of the table
abbrev pub IsOfTable : List (List Entry) → List ℕ → Type 0
IsOfTable table places =
    (k : ℕ) → k < length table → (i : ℕ) × (slice_get (sets_of (lines_at table k)) i ≡ Some (set_of k places))
