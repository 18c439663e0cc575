use Rattle.roster_plan.specs.Bases.{AreGaps}
use Rattle.roster_plan.proofs.apart.gaps_of.Given as goal

-- the prices so far are of their bases
abbrev pub invariant-loop-base : goal.invariant-loop-base
invariant-loop-base g l = AreGaps l.pricing l.gaps.items
