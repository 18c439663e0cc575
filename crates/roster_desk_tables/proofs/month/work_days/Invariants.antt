use Rattle.std.proofs.Common.{◌≡◌, ◌≤◌}
use Rattle.std.specs.List.{count_by, range_with_len}
use Rattle.roster_restrules.specs.Busy.{is_busy}
use Rattle.roster_desk_tables.proofs.month.work_days.Given as goal

abbrev pub invariant-loop-i : goal.invariant-loop-i
invariant-loop-i l = record {
  counted : l.work ≡ count_by (is_busy l.days l.list) (range_with_len 0 l.i);
  few : l.work ≤ l.i;
}
