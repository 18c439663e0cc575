use Rattle.roster_model.proofs.PushLemmas.{each-next}
use Rattle.roster_plan_bound.specs.Spans.{IsSpan}
use Rattle.roster_plan_bound.proofs.timeline.spans_of.Goals as goal

pub loop-p-preserved : goal.loop-p-preserved
loop-p-preserved c =
    let next = each-next (λ p span. IsSpan c.args.problem.now p span) c.loop-p.p c.loop-p.spans.items _ _ c.in_ok-push.ensures.items c.loop-p.invariant.long c.loop-p.invariant.each c.in-Some.ensures in
    record { long = next.0; each = next.1 }
