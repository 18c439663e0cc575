use Rattle.roster_plan.specs.Months.{IsMonthFrom}
use Rattle.roster_plan.proofs.runs.with_runs.Given as goal

-- the month goes on from the one at the start
abbrev pub invariant-loop-run : goal.invariant-loop-run
invariant-loop-run g l = IsMonthFrom l.problem l.fn.start.planned.roster l.month
