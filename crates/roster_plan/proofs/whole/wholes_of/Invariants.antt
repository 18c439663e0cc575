use Rattle.roster_model.specs.Problem.{Problem}
use Rattle.roster_plan.specs.Bases.{AreWholes}
use Rattle.roster_plan.proofs.whole.wholes_of.Given as goal

-- nothing is found of those so far
abbrev pub invariant-loop-base : goal.invariant-loop-base
invariant-loop-base l = (problem : Problem) → AreWholes problem l.wholes.items
