use Rattle.std.proofs.Common.{◌≡◌, ◌+◌, ◌*◌, ◌≤◌, drop}
use Rattle.std.specs.List.{sum_by}
use Rattle.roster_model.specs.declared.limits.TheConstants.{MOST_MONTH_MINUTES}
use Rattle.roster_model.specs.Sums.{duty_flight}
use Rattle.roster_problem.specs.Duties.{picked}
use Rattle.roster_cost.proofs.flight.flight_at.Given as goal

-- the minutes so far, and those of the positions that are left
abbrev pub invariant-loop-position : goal.invariant-loop-position
invariant-loop-position l = record {
  so_far : l.minutes + sum_by (duty_flight l.days) (picked l.problem.duties (drop l.position-index l.positions)) ≡ sum_by (duty_flight l.days) (picked l.problem.duties l.positions);
  bound : l.minutes ≤ l.position-index * MOST_MONTH_MINUTES;
}
