use Rattle.std.proofs.Common.{◌+◌, subst, inl, inr, arith}
use Rattle.std.proofs.lemmas.Bool.{both_ways, cases_eq}
use Rattle.roster_model.specs.declared.limits.TheConstants.{DAYS_BEFORE}
use Rattle.roster_model.specs.Rules.DaysOff.{IsPairOff}
use Rattle.roster_plan_bound.proofs.days_off.pair_from.Goals as goal

pub loop-i-preserved : goal.loop-i-preserved
loop-i-preserved c list i are from off =
    let so_far = c.loop-i.invariant list i are from off in
    elim (cases_eq i c.loop-i.i) [
      | inl same ↦
          let here = subst (λ n. IsPairOff c.args.days.now list (DAYS_BEFORE + n)) same off in
          absurd (both_ways c.is_pair.result c.if-is_pair.false (c.is_pair.ensures list are here))
      | inr other ↦ omega (arith, so_far, other)
    ]

pub returns-clause-first : goal.returns-clause-first
returns-clause-first c list i are from off =
    let so_far = c.loop-i.invariant list i are from off in
    let end = c.month_days-i-end.ensures.value in
    let result = c.month_days.ensures.value in
    omega (arith, so_far, c.loop-i-test.false, end, result)
