use Rattle.roster_plan.specs.Floors.{IsFloorAmong}
use Rattle.roster_plan.proofs.bound.floor.Given as goal

-- what the pairing costs at least among those persons so far
abbrev pub invariant-loop-k : goal.invariant-loop-k
invariant-loop-k l = IsFloorAmong l.problem l.base l.k l.p l.least
