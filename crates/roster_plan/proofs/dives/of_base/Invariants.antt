use Rattle.roster_plan.specs.Months.{IsMonthFrom}
use Rattle.roster_plan.proofs.dives.of_base.Given as goal

-- the month goes on from the one at the start
abbrev pub invariant-loop-hundredths : goal.invariant-loop-hundredths
invariant-loop-hundredths g l = IsMonthFrom l.fn.lent.problem.now l.fn.start.planned.roster l.month
