-- Searches that may be given up.
use Rattle.std.specs.Prelude.{List, ℤ}
use Rattle.roster_model.specs.Problem.{Problem}
use Rattle.roster_lines_table.specs.Entries.{Entry}
use Rattle.roster_lines_table.specs.Person.{IsOfTable}
use Rattle.roster_search.specs.declared.limited.Searched.{Searched}
use Rattle.roster_search.specs.declared.limited.Searched.TheVariants.{Settled, GivenUp}
use Rattle.roster_search_least.specs.Least.{IsLeastBelow}

-- the least roster of the table if it costs less than the limit, or none, and then every one costs at least that
abbrev pub IsSearched : Problem → List (List Entry) → ℤ → Searched → Type 0
IsSearched problem table limit (Settled found) = IsLeastBelow problem (IsOfTable table) limit found
IsSearched problem table limit GivenUp = Unit {0}
