use Rattle.std.proofs.Common.{◌≡◌, refl, sym, subst, ◌∙◌}
use Rattle.std.specs.Prelude.{All}
use Rattle.std.proofs.lemmas.Bool.{false≢true, both_ways}
use Rattle.std.proofs.lemmas.List.{take_all}
use Rattle.std.proofs.lemmas.List.Elements.{All-more}
use Rattle.std.proofs.lemmas.Option.{same_Some}
use Rattle.roster_model.specs.Calendar.{common}
use Rattle.roster_model.specs.records.Leave.{Leave}
use Rattle.roster_legal.proofs.OffLeave.{HoldsAt, All-picked, All-at_picked, leave_at}
use Rattle.roster_legal.proofs.rules.leave.is_off_leave.Goals as goal

pub returns-then-not-is_apart : goal.returns-then-not-is_apart
returns-then-not-is_apart c = (
  λ h. absurd (false≢true h),
  λ off.
      let P : Leave → Type 0 =
      λ leave. common c.args.duty.now.report c.args.duty.now.release leave.from leave.to ≡ 0 in
      let leaves = c.args.problem.now.leaves in
      let positions = c.leave-place-items.result.now in
      let at = leave_at c.leaves-leaves.result.now leaves positions c.loop-place.place-index c.from.result c.index-leaves-from.result c.leaves-leaves.ensures.value c.leave-place-items.ensures.within c.loop-place-test.true c.from.ensures c.index-leaves-from.is in
      let all =
      All-at_picked P leaves positions (subst (All P) (sym c.leave-place-items.ensures.elements) off) in
      absurd (both_ways _ c.if-not-is_apart.true (c.is_apart.ensures.1 (all c.loop-place.place-index 0 c.loop-place-test.true c.index-leaves-from.result at))),
)

pub loop-place-preserved : goal.loop-place-preserved
loop-place-preserved c =
    let P : Leave → Type 0 =
    λ leave. common c.args.duty.now.report c.args.duty.now.release leave.from leave.to ≡ 0 in
    let leaves = c.args.problem.now.leaves in
    let positions = c.leave-place-items.result.now in
    let at = leave_at c.leaves-leaves.result.now leaves positions c.loop-place.place-index c.from.result c.index-leaves-from.result c.leaves-leaves.ensures.value c.leave-place-items.ensures.within c.loop-place-test.true c.from.ensures c.index-leaves-from.is in
    All-more
    (HoldsAt P leaves) positions c.loop-place.place-index 0 c.loop-place-test.true c.loop-place.invariant
    (λ leave here.
    subst P (same_Some _ _ (sym at ∙ here)) (c.is_apart.ensures.0 c.if-not-is_apart.false))

pub returns : goal.returns
returns c =
    let P : Leave → Type 0 =
    λ leave. common c.args.duty.now.report c.args.duty.now.release leave.from leave.to ≡ 0 in
    let leaves = c.args.problem.now.leaves in
    let positions = c.leave-place-items.result.now in
    let all =
    subst (All (HoldsAt P leaves))
    (take_all c.loop-place.place-index positions c.loop-place-test.false) c.loop-place.invariant in
    (λ _. subst (All P) c.leave-place-items.ensures.elements (All-picked P leaves positions all), λ _. refl)
