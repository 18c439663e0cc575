use Rattle.roster_plan.specs.Dives.{AreTried}
use Rattle.roster_plan.proofs.dives.tried_of.Given as goal

-- nothing is found of those so far
abbrev pub invariant-loop : goal.invariant-loop
invariant-loop l = AreTried l.fn.lent.problem.now l.all.items
