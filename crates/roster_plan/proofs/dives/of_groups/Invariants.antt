use Rattle.roster_plan.specs.Months.{IsMonthFrom}
use Rattle.roster_plan.proofs.dives.of_groups.Given as goal

-- the month goes on from the one at the start
abbrev pub invariant-loop : goal.invariant-loop
invariant-loop g l = IsMonthFrom l.fn.lent.problem.now l.fn.start.planned.roster l.month
