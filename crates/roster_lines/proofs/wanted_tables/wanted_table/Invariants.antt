use Rattle.std.proofs.Common.{◌≡◌, length}
use Rattle.roster_lines.specs.WantedTables.{AreAllWanted, AreListedSoFar}
use Rattle.roster_lines.proofs.wanted_tables.wanted_table.Given as goal

-- the lines of the persons so far
abbrev pub invariant-loop-k : goal.invariant-loop-k
invariant-loop-k g l = record {
  long : length l.table ≡ l.k;
  listed : AreListedSoFar l.problem l.table;
  wanted : AreAllWanted g.W.Wanted.wants l.problem l.wanted l.table;
}
