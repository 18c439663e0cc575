use Rattle.roster_plan.specs.Attempts.{AreMade}
use Rattle.roster_plan.proofs.together.attempts_at.Given as goal

-- so it is with those so far
abbrev pub invariant-loop : goal.invariant-loop
invariant-loop l = AreMade l.problem l.attempts.items
