use Rattle.roster_plan.specs.Months.{IsMonthFrom}
use Rattle.roster_plan.proofs.whole.with_best.Given as goal

-- the month goes on from the one at the start
abbrev pub invariant-loop-whole : goal.invariant-loop-whole
invariant-loop-whole g l = IsMonthFrom l.problem l.fn.start.planned.roster l.month
