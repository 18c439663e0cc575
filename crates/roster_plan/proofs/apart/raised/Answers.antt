use Rattle.roster_plan.proofs.MonthLemmas.{month_on}
use Rattle.roster_plan.proofs.apart.raised.Goals as goal

pub loop-preserved : goal.loop-preserved
loop-preserved g c = record {
  from =
      month_on c.args.lent.now.problem.now c.args.start.planned.roster c.loop.month c.in_ok-month-2.month
      c.loop.invariant.from c.in_ok-month-2.ensures;
  gaps = c.look_all.ensures;
}

pub returns-clause-month : goal.returns-clause-month
returns-clause-month g c =
    month_on c.args.lent.now.problem.now c.args.start.planned.roster c.loop.month c.in_ok-month-3.month
    c.loop.invariant.from c.in_ok-month-3.ensures
