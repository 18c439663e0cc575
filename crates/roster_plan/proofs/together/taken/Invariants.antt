use Rattle.roster_plan.specs.Planned.{IsPlannedFrom}
use Rattle.roster_plan.proofs.together.taken.Given as goal

-- the plan goes on from the one at the start
abbrev pub invariant-loop-attempt : goal.invariant-loop-attempt
invariant-loop-attempt g l = IsPlannedFrom l.problem l.fn.start.roster l.planned
