use Rattle.roster_plan.specs.Planned.{IsPlannedFrom}
use Rattle.roster_plan.proofs.together.improved_nearby.Given as goal

-- the plan goes on from the one at the start
abbrev pub invariant-loop : goal.invariant-loop
invariant-loop g l = IsPlannedFrom l.fn.lent.problem.now l.fn.start.planned.roster l.planned
