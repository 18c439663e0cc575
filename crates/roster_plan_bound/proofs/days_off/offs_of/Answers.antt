use Rattle.std.proofs.Common.{◌≡◌, [], ◌∷◌, Some, subst}
use Rattle.std.specs.Prelude.{slice_get}
use Rattle.std.proofs.lemmas.Option.{get_or_from_slice_get}
use Rattle.roster_model.proofs.PushLemmas.{each-next}
use Rattle.roster_plan_bound.specs.declared.span.Span.{Span}
use Rattle.roster_plan_bound.specs.DaysOffs.{IsOffFrom}
use Rattle.roster_plan_bound.proofs.days_off.offs_of.Goals as goal

pub loop-p-preserved : goal.loop-p-preserved
loop-p-preserved c =
    let here = c.in_ok-off_behind.ensures in
    let next =
    each-next (λ p off. (span : Span) → slice_get c.args.spans.now p ≡ Some span → IsOffFrom c.args.problem.now c.args.k (p ∷ []) span.report off)
    c.loop-p.p c.loop-p.offs.items _ _ c.in_ok-push.ensures.items c.loop-p.invariant.covers c.loop-p.invariant.each
    (λ span at. subst (λ (s : Span). IsOffFrom c.args.problem.now c.args.k (c.loop-p.p ∷ []) s.report c.in_ok-off_behind.field-0) (get_or_from_slice_get c.args.spans.now c.loop-p.p span _ at) here) in
    record { covers = next.0; each = next.1 }
