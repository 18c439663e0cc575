use Rattle.roster_plan.proofs.MonthLemmas.{month_on, month_same}
use Rattle.roster_plan.proofs.dives.of_groups.Goals as goal

pub loop-init : goal.loop-init
loop-init g c = month_same c.args.lent.now.problem.now c.args.start c.requires.month

pub loop-preserved : goal.loop-preserved
loop-preserved g c =
    month_on c.args.lent.now.problem.now c.args.start.planned.roster c.loop.month c.in_ok-month.month
    c.loop.invariant c.in_ok-month.ensures
