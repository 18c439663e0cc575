use Rattle.roster_desk_sheets.specs.Written.{IsWhole}
use Rattle.roster_desk_tables.specs.Rows.{HavePersonRows}
use Rattle.roster_desk_tables.proofs.table.persons_table.Given as goal

abbrev pub invariant-loop-k : goal.invariant-loop-k
invariant-loop-k l = record {
  whole : IsWhole l.table.records;
  rows : HavePersonRows l.problem l.places l.k l.initial.table l.table;
}
