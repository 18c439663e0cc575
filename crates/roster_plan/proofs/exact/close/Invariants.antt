use Rattle.roster_plan.specs.Exact.{IsExact}
use Rattle.roster_plan.proofs.exact.close.Given as goal

-- what was found so far is so
abbrev pub invariant-loop : goal.invariant-loop
invariant-loop l = IsExact l.problem l.base l.found
