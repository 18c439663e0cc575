use Rattle.std.proofs.Common.{◌≡◌, true, false, length, Some, refl, sym, ap, ◌∙◌, subst, inl, inr, arith, ℤ, ◌+ℤ◌, ◌≤ℤ◌, w64, to_z, of_z, FitsSigned, rules}
use Rattle.std.specs.Prelude.{slice_get}
use Rattle.std.proofs.lemmas.Bool.{cases_eq}
use Rattle.std.proofs.lemmas.Int.{ints, to_z-of_z}
use Rattle.std.proofs.lemmas.Option.{same_Some, slice_get_read}
use Rattle.roster_cost.specs.Amounts.{IsWithin}
use Rattle.roster_model.specs.Rules.{is_among}
use Rattle.roster_plan_bound.specs.declared.parts.TheConstants.{MOST_BEHIND}
use Rattle.roster_plan_bound.specs.Behinds.{row_at, row_for}
use Rattle.roster_plan_bound.specs.Chains.{value_at}
use Rattle.roster_plan_bound.specs.Timelines.{class_of, later_than, need_behind, unrested_after}
use Rattle.roster_plan_bound.proofs.leading.base_of.Goals as goal

pub rested_by-base-requires-clause-other : goal.rested_by-base-requires-clause-other
rested_by-base-requires-clause-other c =
    let timeline = c.args.valued.now.timeline.now in
    let order = timeline.order.items in
    let known = c.requires.valued.is_timeline.known c.loop-s.s c.index.result.now (omega (arith, c.loop-s-test.true, c.requires.until)) in
    ((c.requires.valued.is_timeline.alone c.index.result.now).0
    (subst (λ q. is_among timeline.alone q ≡ true) (sym c.index.ensures) known)).0

pub loop-s-preserved : goal.loop-s-preserved
loop-s-preserved c =
    let timeline = c.args.valued.now.timeline.now in
    let inv = c.loop-s.invariant in
    let order = timeline.order.items in
    let here : slice_get order c.loop-s.s ≡ Some c.index.result.now =
    slice_get_read order (length order) c.loop-s.s c.index.result.now refl
    (omega (arith, c.loop-s-test.true, c.requires.until)) c.index.ensures in
    let result : ℤ = c.rested_by-base.result in
    let result_within = c.rested_by-base.ensures.within in
    let result_fits : FitsSigned w64 result = search rules in
    let told : to_z w64 (of_z w64 result) ≡ result = to_z-of_z w64 result result_fits in
    let kept = c.rested_by-base.ensures.kept in
    record {
      end = λ may. omega (arith, ints, told, kept, inv.end may);
      tail = λ inside tail at. let before = inv.tail inside tail at in omega (arith, ints, told, kept, before);
      rested = λ s q rows amount above below at later broken there least sum. elim (cases_eq s c.loop-s.s) [
        | inl same ↦
            let same_q : q ≡ c.index.result.now = same_Some q c.index.result.now (sym at ∙ ap (λ i. slice_get order i) same ∙ here) in
            let led = c.rested_by-base.ensures.rested
            (subst (λ i. is_among (later_than timeline c.args.p) i ≡ true) same_q later)
            (subst (λ i. is_among (unrested_after timeline c.args.p) i ≡ false) same_q broken) rows amount
            (subst (λ i. slice_get c.args.behind.now.rows.items i ≡ Some rows) same_q there) least
            (subst (λ i. (value_at c.args.valued.now.values.now i +ℤ row_at (row_for rows (need_behind timeline c.args.p i c.args.need)) (class_of timeline i)) ≤ℤ amount) same_q sum) in
            omega (arith, ints, told, led)
        | inr other ↦
            let before = inv.rested s q rows amount above (omega (arith, below, other)) at later broken there least sum in
            omega (arith, ints, told, kept, before)
      ];
      within = subst (IsWithin MOST_BEHIND) (sym told) result_within;
    }

pub returns : goal.returns
returns c =
    let inv = c.loop-s.invariant in
    record {
      end = inv.end;
      tail = inv.tail;
      rested = λ s q rows amount above below. inv.rested s q rows amount above (omega (arith, below, c.loop-s-test.false));
      within = inv.within;
    }
