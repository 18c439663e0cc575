use Rattle.std.proofs.Common.{ℕ, ◌<◌, ◌≤◌, get_or}
use Rattle.roster_cost.specs.Amounts.{most_extra}
use Rattle.roster_lines_table.specs.Person.{lines_at}
use Rattle.roster_search_regions.specs.Building.{AreNearBefore}
use Rattle.roster_search_regions.proofs.build.scale_of.Given as goal

-- no line of the persons so far has more
abbrev pub invariant-loop-k : goal.invariant-loop-k
invariant-loop-k l = record {
  some : 0 < l.greatest;
  most : l.greatest ≤ most_extra;
  all : (j : ℕ) → j < l.k → AreNearBefore l.greatest (get_or l.ranges j (0, 0)).1 (lines_at l.table j);
}
