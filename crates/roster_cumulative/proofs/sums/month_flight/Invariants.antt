use Rattle.std.proofs.Common.{◌≡◌, ◌*◌, ◌≤◌, take, pos}
use Rattle.std.specs.List.{sum_by}
use Rattle.roster_model.specs.declared.limits.TheConstants.{MOST_MONTH_MINUTES}
use Rattle.roster_model.specs.Sums.{duty_flight}
use Rattle.roster_cumulative.proofs.sums.month_flight.Given as goal

-- the duties so far
abbrev pub invariant-loop-k : goal.invariant-loop-k
invariant-loop-k l = record {
  value : l.total ≡ pos (sum_by (duty_flight l.days) (take l.k l.list));
  bound : sum_by (duty_flight l.days) (take l.k l.list) ≤ l.k * MOST_MONTH_MINUTES;
}
