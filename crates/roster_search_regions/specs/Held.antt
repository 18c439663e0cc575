-- Where the lines of a tree stand.
use Rattle.std.specs.Prelude.{◌≡◌, ℕ, List, length, All}
use Rattle.roster_search_regions.specs.declared.tree.Held.{Held}
use Rattle.roster_search_regions.specs.declared.tree.Held.TheVariants.{Table, Own}
use Rattle.roster_search_regions.specs.Marks.{picked}
use Rattle.roster_search_regions.specs.Regions.{AllowedLine}
use Rattle.roster_search_regions.specs.Trees.{lines_in, ArePossible, AreCertain, IsLimited}

abbrev pub lines_held : Held → List AllowedLine
lines_held (Table lines) = picked lines.marks lines.all
lines_held (Own choices) = lines_in choices.items

-- no number of a choice is beyond its limit; those of the table's rows are none
abbrev pub AreLimited : Held → Type 0
AreLimited (Table lines) = Unit {0}
AreLimited (Own choices) = All IsLimited choices.items

-- lines, with what some and what all of them have, and how many there are
pub record IsKnown (held : Held) (possible certain : List ℕ) (count : ℕ) : Type 0 where
  pub limited : AreLimited held
  pub some : ArePossible (lines_held held) possible
  pub all : AreCertain (lines_held held) certain
  pub number : count ≡ length (lines_held held)
