use Rattle.std.proofs.Common.{ℤ, sym, subst, w64, FitsSigned, rules}
use Rattle.std.proofs.lemmas.Int.{to_z-of_z}
use Rattle.roster_bases.specs.Bases.{only}
use Rattle.roster_bases.specs.Homes.{IsHomeBound}
use Rattle.roster_plan.specs.Bases.{IsGap}
use Rattle.roster_plan.proofs.MonthLemmas.{month_on}
use Rattle.roster_plan.proofs.PartLemmas.{same_home_bound}
use Rattle.roster_plan.proofs.apart.with_bounds.Goals as goal

pub raised-requires-clause-bound : goal.raised-requires-clause-bound
raised-requires-clause-bound g c =
    let problem = c.args.lent.now.problem.now in
    let gap = c.gap-item.result in
    let known = c.requires.gaps c.loop-gap.gap-index gap c.loop-gap-test.true in
    let is = subst (IsGap problem) (sym c.gap-item.is) known in
    let bound : ℤ = c.bound-bound.result in
    let fits : FitsSigned w64 bound = search rules in
    subst (IsHomeBound problem (only gap.base)) (sym (to_z-of_z w64 bound fits))
    (same_home_bound gap.priced.problem problem gap.priced.base gap.base bound is.same is.of
    c.bound-bound.ensures.bound)

pub loop-gap-preserved : goal.loop-gap-preserved
loop-gap-preserved g c =
    month_on c.args.lent.now.problem.now c.args.start.planned.roster c.loop-gap.month c.in_ok-month.month
    c.loop-gap.invariant c.in_ok-month.ensures.month
