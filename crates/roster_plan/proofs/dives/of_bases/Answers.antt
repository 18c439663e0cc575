use Rattle.roster_plan.proofs.MonthLemmas.{month_on, month_same}
use Rattle.roster_plan.proofs.dives.of_bases.Goals as goal

pub loop-gap-init : goal.loop-gap-init
loop-gap-init g c = month_same c.args.lent.now.problem.now c.args.start c.requires.month

pub loop-gap-preserved : goal.loop-gap-preserved
loop-gap-preserved g c =
    month_on c.args.lent.now.problem.now c.args.start.planned.roster c.loop-gap.month c.in_ok-month.month
    c.loop-gap.invariant c.in_ok-month.ensures
