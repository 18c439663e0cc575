use Rattle.std.proofs.Common.{◌≡◌, length}
use Rattle.roster_lines.specs.Made.{IsTableSoFar}
use Rattle.roster_lines.proofs.table.table_of.Given as goal

-- the lines of the persons so far
abbrev pub invariant-loop-k : goal.invariant-loop-k
invariant-loop-k l = record {
  long : length l.table ≡ l.k;
  lines : IsTableSoFar l.problem l.table;
}
