use Rattle.std.proofs.Common.{◌≡◌, sym, subst, arith}
use Rattle.roster_model.specs.declared.limits.TheConstants.{MOST_BASES}
use Rattle.roster_plan.specs.Parts.{AreParts, ArePartsOf}
use Rattle.roster_plan.proofs.PartLemmas.{part_at, parts_push}
use Rattle.roster_plan.proofs.months.Month.renewed.Goals as goal

pub renewed-requires-clause-part : goal.renewed-requires-clause-part
renewed-requires-clause-part g c = part_at c.args.problem.now MOST_BASES c.loop-base.base c.args.self.parts.items c.index.result.now c.requires.month.parts c.loop-base-test.true c.index.ensures

pub loop-base-preserved : goal.loop-base-preserved
loop-base-preserved g c =
    parts_push c.args.problem.now c.loop-base.base c.loop-base.parts.items c.push.new.self.items c.in_ok-part.part c.in_ok-push.ensures.items c.loop-base.invariant c.in_ok-part.ensures.part

pub told-requires-clause-parts : goal.told-requires-clause-parts
told-requires-clause-parts g c =
    let all : c.loop-base.base ≡ MOST_BASES =
    omega (arith, c.loop-base-test.false, c.loop-base.auto.base-end) in
    subst (AreParts c.args.problem.now) (sym c.deref.ensures.value)
    (subst (λ n. ArePartsOf c.args.problem.now n c.loop-base.parts.items) all c.loop-base.invariant)

pub returns : goal.returns
returns g c =
    let all : c.loop-base.base ≡ MOST_BASES =
    omega (arith, c.loop-base-test.false, c.loop-base.auto.base-end) in
    record {
      parts = subst (λ n. ArePartsOf c.args.problem.now n c.loop-base.parts.items) all c.loop-base.invariant;
      planned = c.in_ok-planned.ensures;
    }
