use Rattle.std.proofs.Common.{◌≡◌, ◌≤◌}
use Rattle.std.specs.List.{count_by, range_with_len}
use Rattle.roster_desk_tables.specs.Differences as spec
use Rattle.roster_desk_tables.proofs.differences.moved_persons.Given as goal

abbrev pub invariant-loop-k : goal.invariant-loop-k
invariant-loop-k l = record {
  counted : l.count ≡ count_by (spec.is_moved l.before l.after) (range_with_len 0 l.k);
  few : l.count ≤ l.k;
}
