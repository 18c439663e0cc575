-- Lines as a tree: the set of each is that of an earlier one, its parent, with one more pairing behind.
use Rattle.std.specs.Prelude.{◌≡◌, ℕ, ◌<◌, ◌≤◌, List, [], ◌∷◌, ◌++◌, Some, length, slice_get, All}
use Rattle.std.specs.List.Sorted.{IsStrictlyIncreasing}
use Rattle.roster_model.specs.declared.limits.TheConstants.{MOST_LINES, MOST_PAIRINGS}
use Rattle.roster_model.specs.Lines.{AreOrdered}
use Rattle.roster_lines_table.specs.declared.lines.Row.{Row}
use Rattle.roster_lines_table.specs.Entries.{Entry, entry_of, longer, set_at, sets_of}
use Rattle.roster_lines_table.specs.Rows.{entries_after, IsWithinLimits}

-- the set of one more line: the first of all is the empty one
abbrev pub next_set : List Entry → Row → List ℕ
next_set [] line = []
next_set (first ∷ entries) line = longer (first ∷ entries) line.parent line.last

-- the entries with those of more lines
unfoldable pub entries_from : List Entry → List Row → List Entry
entries_from entries [] = entries
entries_from entries (line ∷ lines) =
    entries_from (entries ++ entry_of (next_set entries line) line.cost ∷ []) lines

unfoldable pub entries_in : List Row → List Entry
entries_in lines = entries_from [] lines

-- There is the empty line, each parent stands before its line, and the sets are in their order. Each
-- depth is that of the line's set, so that the rows are the lines without their parents too.
pub record IsTree (lines : List Row) : Type 0 where
  pub some : 0 < length lines
  pub parents : (i : ℕ) (line : Row) → slice_get lines i ≡ Some line → 0 < i → line.parent < i
  pub ascending : All IsStrictlyIncreasing (sets_of (entries_in lines))
  pub places : All (All (λ p. p < MOST_PAIRINGS)) (sets_of (entries_in lines))
  pub ordered : AreOrdered (sets_of (entries_in lines))
  pub few : length lines ≤ MOST_LINES
  pub depths : (i : ℕ) (line : Row) → slice_get lines i ≡ Some line
      → line.depth ≡ length (set_at (entries_in lines) i)
  pub preorder : entries_after [] lines ≡ entries_in lines
  pub limits : All IsWithinLimits lines
