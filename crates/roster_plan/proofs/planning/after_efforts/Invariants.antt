use Rattle.roster_plan.specs.Bases.{AreGaps}
use Rattle.roster_plan.specs.Months.{IsMonthFrom}
use Rattle.roster_plan.proofs.planning.after_efforts.Given as goal

-- the month goes on from the one at the start, and the prices are of their bases
abbrev pub invariant-loop-effort : goal.invariant-loop-effort
invariant-loop-effort g l = record {
  from : IsMonthFrom l.lent.problem.now l.fn.start.planned.roster l.month;
  gaps : AreGaps l.lent.problem.now l.bounds.gaps.items;
}
