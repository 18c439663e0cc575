use Rattle.roster_model.specs.Problem.{Problem}
use Rattle.roster_plan.specs.Bases.{AreGaps}
use Rattle.roster_plan.proofs.apart.renew_costs.Given as goal

-- what holds of the bases at the start holds still
abbrev pub invariant-loop-i : goal.invariant-loop-i
invariant-loop-i l = (problem : Problem) → AreGaps problem l.fn.gaps → AreGaps problem l.gaps
