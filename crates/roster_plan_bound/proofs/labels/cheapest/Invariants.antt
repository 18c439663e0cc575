use Rattle.std.proofs.Common.{◌≡◌}
use Rattle.roster_plan_bound.proofs.labels.cheapest.Given as goal

-- the judge is of the problem
abbrev pub invariant-loop : goal.invariant-loop
invariant-loop l = record { judge : l.judge ≡ l.prospect.problem }
