use Rattle.std.proofs.Common.{◌≡◌, ℕ, ◌<◌, [], length, get_or}
use Rattle.roster_lines_table.specs.Person.{lines_at}
use Rattle.roster_search_regions.specs.Building.{allowed_between}
use Rattle.roster_search_regions.proofs.region.Region.of_ranges.Given as goal

-- the persons so far have the lines of their ranges
abbrev pub invariant-loop-k : goal.invariant-loop-k
invariant-loop-k l = record {
  covers : length l.persons.items ≡ l.k;
  each : (j : ℕ) → j < l.k → get_or l.persons.items j [] ≡ allowed_between l.scale (lines_at l.table j) (get_or l.ranges j (0, 0)).0 (get_or l.ranges j (0, 0)).1;
}
