use Rattle.roster_plan.proofs.MonthLemmas.{month_on, month_same}
use Rattle.roster_plan.proofs.planning.after_efforts.Goals as goal

pub loop-effort-init : goal.loop-effort-init
loop-effort-init g c = record {
  from = month_same c.args.lent.now.problem.now c.args.start c.requires.month;
  gaps = c.none-bounds.ensures c.args.lent.now.problem.now;
}

pub loop-effort-preserved : goal.loop-effort-preserved
loop-effort-preserved g c =
    let problem = c.args.lent.now.problem.now in
    let before = c.loop-effort.month in
    let last = month_on problem before.planned.roster c.in_ok-tried.tried c.in_ok-month.month
    c.in_ok-tried.ensures c.in_ok-month.ensures.month in
    record {
      from = month_on problem c.args.start.planned.roster before c.in_ok-month.month c.loop-effort.invariant.from last;
      gaps = c.in_ok-month.ensures.bounds;
    }
