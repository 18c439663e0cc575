use Rattle.roster_plan.specs.Parts.{ArePartsOf}
use Rattle.roster_plan.proofs.months.Month.renewed.Given as goal

-- the parts of the bases so far
abbrev pub invariant-loop-base : goal.invariant-loop-base
invariant-loop-base g l = ArePartsOf l.problem l.base l.parts.items
