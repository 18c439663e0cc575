use Rattle.roster_plan.proofs.MonthLemmas.{month_on, month_same}
use Rattle.roster_plan.proofs.dives.of_base.Goals as goal

pub loop-hundredths-init : goal.loop-hundredths-init
loop-hundredths-init g c = month_same c.args.lent.now.problem.now c.args.start c.requires.month

pub loop-hundredths-preserved : goal.loop-hundredths-preserved
loop-hundredths-preserved g c =
    month_on c.args.lent.now.problem.now c.args.start.planned.roster c.loop-hundredths.month c.in_ok-month.month
    c.loop-hundredths.invariant c.in_ok-month.ensures
