use Rattle.roster_plan.specs.Months.{IsMonthFrom}
use Rattle.roster_plan.proofs.dives.of_few.Given as goal

-- the month goes on from the one at the start
abbrev pub invariant-loop-tried : goal.invariant-loop-tried
invariant-loop-tried g l = IsMonthFrom l.fn.lent.problem.now l.fn.start.planned.roster l.month
