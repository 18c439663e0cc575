use Rattle.std.proofs.Common.{◌≡◌, ◌≤◌}
use Rattle.std.specs.List.{count_by, range_with_len}
use Rattle.roster_desk_tables.specs.Differences as spec
use Rattle.roster_desk_tables.proofs.differences.moved_pairings.Given as goal

abbrev pub invariant-loop-p : goal.invariant-loop-p
invariant-loop-p l = record {
  counted : l.count ≡ count_by (spec.is_other l.before l.after) (range_with_len 0 l.p);
  few : l.count ≤ l.p;
}
