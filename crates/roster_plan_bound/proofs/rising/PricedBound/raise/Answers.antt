use Rattle.std.proofs.Common.{◌∙◌, ap, arith}
use Rattle.std.proofs.lemmas.Int.{ints}
use Rattle.roster_plan_bound.proofs.rising.PricedBound.raise.Goals as goal

pub loop-preserved : goal.loop-preserved
loop-preserved g c =
    let shown = c.show_if_due.ensures.raised in
    let stepped = ap (λ b. b.bound) c.step.ensures in
    let before = c.loop.invariant.raised in
    record {
      same = c.show_if_due.ensures.problem ∙ ap (λ b. b.problem) c.step.ensures ∙ c.loop.invariant.same;
      base = c.show_if_due.ensures.base ∙ ap (λ b. b.base) c.step.ensures ∙ c.loop.invariant.base;
      raised = omega (arith, ints, shown, stepped, before);
    }
