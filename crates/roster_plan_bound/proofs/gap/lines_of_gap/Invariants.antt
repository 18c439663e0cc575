use Rattle.std.proofs.Common.{◌≡◌, ◌≤◌, length}
use Rattle.roster_lines.specs.WantedTables.{AreListedSoFar}
use Rattle.roster_plan_bound.proofs.GapLemmas.{HasCheap, HasNone}
use Rattle.roster_plan_bound.proofs.gap.lines_of_gap.Given as goal

-- the lines of the first persons
abbrev pub invariant-loop-k : goal.invariant-loop-k
invariant-loop-k l = record {
  count : length l.table ≡ l.k;
  few : l.k ≤ length l.pricing.persons;
  listed : AreListedSoFar l.pricing l.table;
  held : HasCheap l.pricing l.base l.priced.bound l.gap l.table l.k;
  none : HasNone l.pricing l.base l.table;
}
