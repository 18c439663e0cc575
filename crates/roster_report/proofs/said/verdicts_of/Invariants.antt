use Rattle.roster_model.specs.Rosters.{IsVerdictIn}
use Rattle.roster_report.proofs.OfPersons.{SaidBefore}
use Rattle.roster_report.proofs.said.verdicts_of.Given as goal

-- what the persons so far break
abbrev pub invariant-loop-k : goal.invariant-loop-k
invariant-loop-k l = SaidBefore (IsVerdictIn l.problem l.places) l.k l.verdicts.items
