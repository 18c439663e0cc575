use Rattle.std.proofs.Common.{◌≡◌, length}
use Rattle.roster_lines.specs.Made.{IsTableSoFar}
use Rattle.roster_lines.proofs.shared.gathered.Given as goal

-- the lines of the persons so far
abbrev pub invariant-loop-made : goal.invariant-loop-made
invariant-loop-made l = record {
  long : length l.table ≡ length l.yielded;
  lines : IsTableSoFar l.problem l.table;
}
