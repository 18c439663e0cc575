use Rattle.std.proofs.Common.{sym, subst}
use Rattle.roster_plan.specs.Months.{IsMonthFrom}
use Rattle.roster_plan.proofs.MonthLemmas.{month_on, month_same}
use Rattle.roster_plan.proofs.dives.of_few.Goals as goal
use Rattle.roster_plan.proofs.dives.of_few.Goals.{in-Some-2+in_ok-known+in_ok-roster-2+in_ok-month, in_default}

pub loop-tried-init : goal.loop-tried-init
loop-tried-init g c = month_same c.args.lent.now.problem.now c.args.start c.requires.month

pub loop-tried-preserved : goal.loop-tried-preserved
loop-tried-preserved g c =
    let problem = c.args.lent.now.problem.now in
    let before = c.args.start.planned.roster in
    elim c.match-branch-4.branch [
      | in-Some-2+in_ok-known+in_ok-roster-2+in_ok-month w ↦
          subst (IsMonthFrom problem before) (sym w.month-is)
          (month_on problem before c.loop-tried.month w.in_ok-month.month c.loop-tried.invariant w.in_ok-month.ensures)
      | in_default w ↦ subst (IsMonthFrom problem before) (sym w.month-is) c.loop-tried.invariant
    ]
