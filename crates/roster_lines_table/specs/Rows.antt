-- Lines row by row: each has one pairing behind those that it shares with the line before it.
use Rattle.std.specs.Prelude.{ℕ, ◌<◌, ◌≤◌, ◌-◌, ◌==◌, if◌then◌else◌, List, [], ◌∷◌, ◌++◌, take}
use Rattle.roster_model.specs.declared.limits.TheConstants.{MOST_PAIRINGS}
use Rattle.roster_lines_table.specs.declared.lines.Row.{Row}
use Rattle.roster_lines_table.specs.Entries.{Entry, entry_of}

-- The set of a row: its last pairing stands behind as many of those of the set before as there are
-- others in it. One without depth is the empty set.
abbrev pub set_after : List ℕ → Row → List ℕ
set_after set row = if row.depth == 0 then [] else take (row.depth - 1) set ++ row.last ∷ []

-- the entries of rows that stand behind one with that set
unfoldable pub entries_after : List ℕ → List Row → List Entry
entries_after set [] = []
entries_after set (row ∷ rows) =
    entry_of (set_after set row) row.cost ∷ entries_after (set_after set row) rows

-- the numbers of a row are within their limits
pub record IsWithinLimits (row : Row) : Type 0 where
  pub depth : row.depth ≤ MOST_PAIRINGS
  pub last : row.last < MOST_PAIRINGS
