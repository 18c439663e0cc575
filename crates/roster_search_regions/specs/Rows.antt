-- The rows of a person's lines in the table, as choices of a region.
use Rattle.std.specs.Prelude.{ℕ, Bool, List, true, map, ℤ, pos, ◌-ℤ◌, ◌*ℤ◌, All}
use Rattle.roster_cost.specs.Amounts.{IsWithin, most_extra}
use Rattle.roster_lines_table.specs.declared.lines.Row.{Row}
use Rattle.roster_search_regions.specs.declared.choice.Choice.{Choice}
use Rattle.roster_search_regions.specs.Marks.{remarked}
use Rattle.roster_search_regions.specs.Trees.{IsLimited}

-- what a row costs more than the empty line, at so many parts a cost unit, and all that it has
abbrev pub choice_of : ℕ → ℤ → Row → Choice
choice_of scale empty row =
    record { extra = pos scale *ℤ (row.cost -ℤ empty); depth = row.depth; last = row.last; live = true }

abbrev pub choices_of : ℕ → ℤ → List Row → List Choice
choices_of scale empty rows = map (choice_of scale empty) rows

-- no number is beyond its limit while rows are read so, with these marks
pub record AreReadable (scale : ℕ) (empty : ℤ) (marks : List Bool) (rows : List Row) : Type 0 where
  pub near : All (λ row. IsWithin most_extra (row.cost -ℤ empty)) rows
  pub limited : All IsLimited (remarked marks (choices_of scale empty rows))
