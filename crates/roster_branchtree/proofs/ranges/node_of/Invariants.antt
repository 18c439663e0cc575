use Rattle.std.proofs.Common.{◌≡◌, ◌<◌, ℕ, take, length, Some}
use Rattle.std.specs.Prelude.{slice_get}
use Rattle.roster_lines_table.specs.Person.{lines_at}
use Rattle.roster_branchtree.proofs.ranges.node_of.Given as goal

-- the node of the path so far
abbrev pub invariant-loop-k : goal.invariant-loop-k
invariant-loop-k l = record {
  tables : l.node.tables ≡ l.tables;
  lines : l.node.lines ≡ take l.k l.path;
  numbers : (j h : ℕ) → j < l.k → slice_get l.path j ≡ Some h → h < length (lines_at l.tables.table j);
}
