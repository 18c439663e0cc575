use Rattle.roster_model.specs.Rules.{IsLock}
use Rattle.roster_report.proofs.OfPersons.{SaidBefore}
use Rattle.roster_report.proofs.said.locks_of.Given as goal

-- what locks the persons so far
abbrev pub invariant-loop-k : goal.invariant-loop-k
invariant-loop-k l = SaidBefore (IsLock l.problem) l.k l.locks.items
