use Rattle.std.proofs.Common.{sym, subst}
use Rattle.roster_plan.specs.Bases.{IsGap}
use Rattle.roster_plan.proofs.MonthLemmas.{month_of, month_same}
use Rattle.roster_plan.proofs.apart.closed.Given.{Over}
use Rattle.roster_plan.proofs.apart.closed.Goals as goal

pub loop-gap-init : goal.loop-gap-init
loop-gap-init g c = month_same c.args.lent.now.problem.now c.args.start c.requires.month

is_gap : (g : Over) (c : goal.After-with_found-arg-1 g) → IsGap c.args.lent.now.problem.now c.gap-item.result
is_gap g c =
    let gap = c.gap-item.result in
    let known = c.requires.gaps c.loop-gap.gap-index gap c.loop-gap-test.true in
    subst (IsGap c.args.lent.now.problem.now) (sym c.gap-item.is) known

pub with_found-requires-clause-month : goal.with_found-requires-clause-month
with_found-requires-clause-month g c =
    month_of c.args.lent.now.problem.now c.args.start.planned.roster c.loop-gap.month c.loop-gap.invariant

pub with_found-requires-clause-base : goal.with_found-requires-clause-base
with_found-requires-clause-base g c = (is_gap g c).base
