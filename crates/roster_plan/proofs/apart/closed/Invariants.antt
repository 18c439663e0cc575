use Rattle.roster_plan.specs.Months.{IsMonthFrom}
use Rattle.roster_plan.proofs.apart.closed.Given as goal

-- the month goes on from the one at the start
abbrev pub invariant-loop-gap : goal.invariant-loop-gap
invariant-loop-gap g l = IsMonthFrom l.fn.lent.problem.now l.fn.start.planned.roster l.month
