use Rattle.std.proofs.Common.{◌≡◌, [], map, take}
use Rattle.csv.specs.Records.{fields_of, partial_of}
use Rattle.roster_desk_tables.proofs.writing.row_with.Given as goal

-- the first cells
abbrev pub invariant-loop-i : goal.invariant-loop-i
invariant-loop-i l = record {
  fields : fields_of l.row ≡ map (λ cell. cell.now) (take l.i l.cells);
  partial : partial_of l.row ≡ [];
}
