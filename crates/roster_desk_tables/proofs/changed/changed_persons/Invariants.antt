use Rattle.std.proofs.Common.{◌≡◌, ◌≤◌}
use Rattle.std.specs.List.{count_by, range_with_len}
use Rattle.roster_desk_tables.specs.Changed.{is_changed}
use Rattle.roster_desk_tables.proofs.changed.changed_persons.Given as goal

abbrev pub invariant-loop-k : goal.invariant-loop-k
invariant-loop-k l = record {
  counted : l.count ≡ count_by (is_changed l.problem l.before l.after) (range_with_len 0 l.k);
  few : l.count ≤ l.k;
}
