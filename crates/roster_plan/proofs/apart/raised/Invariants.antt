use Rattle.roster_plan.specs.Bases.{AreGaps}
use Rattle.roster_plan.specs.Months.{IsMonthFrom}
use Rattle.roster_plan.proofs.apart.raised.Given as goal

-- the month goes on from the one at the start, and the prices are of their bases
abbrev pub invariant-loop : goal.invariant-loop
invariant-loop g l = record {
  from : IsMonthFrom l.lent.problem.now l.fn.start.planned.roster l.month;
  gaps : AreGaps l.lent.problem.now l.gaps;
}
