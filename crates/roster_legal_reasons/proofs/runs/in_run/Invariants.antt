use Rattle.std.proofs.Common.{◌≡◌, ◌+◌, ◌-◌, ◌*◌, ◌≤◌}
use Rattle.std.specs.List.{sum_by, range_with_len}
use Rattle.roster_cumulative.specs.Table.{most_in_run}
use Rattle.roster_legal_reasons.specs.Bounds.{minutes_by}
use Rattle.roster_legal_reasons.proofs.runs.in_run.Given as goal

abbrev pub invariant-loop-day : goal.invariant-loop-day
invariant-loop-day l = record {
  value : l.total ≡ sum_by (minutes_by l.measure l.days l.list) (range_with_len (l.last + 1 - l.n) (l.day - (l.last + 1 - l.n)));
  bound : l.total ≤ (l.day - (l.last + 1 - l.n)) * most_in_run;
}
