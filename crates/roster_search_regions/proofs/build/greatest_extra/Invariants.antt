use Rattle.std.proofs.Common.{ℕ, ◌<◌, ◌≤◌, get_or}
use Rattle.roster_cost.specs.Amounts.{IsWithin, most_extra}
use Rattle.roster_lines_table.specs.Entries.{Entry}
use Rattle.roster_search_regions.specs.Building.{extra_in}
use Rattle.roster_search_regions.proofs.build.greatest_extra.Given as goal

-- no line so far has more
abbrev pub invariant-loop-i : goal.invariant-loop-i
invariant-loop-i l = record {
  bound : l.greatest ≤ most_extra;
  all : (j : ℕ) (d : Entry) → j < l.i → IsWithin l.greatest (extra_in l.lines (get_or l.lines j d));
}
