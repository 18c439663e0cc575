use Rattle.std.proofs.Common.{◌≡◌, ◌≤◌, true, [], length, get_or, Some, refl, sym, ap, ◌∙◌, subst, inl, inr, arith, ℤ, ◌+ℤ◌, ◌≤ℤ◌, w64, to_z, of_z, FitsSigned, rules}
use Rattle.std.specs.Prelude.{All, slice_get}
use Rattle.std.proofs.lemmas.Bool.{cases_eq, false≢true}
use Rattle.std.proofs.lemmas.Int.{ints, to_z-of_z}
use Rattle.std.proofs.lemmas.Option.{get_or_from_slice_get, same_Some, slice_get_read}
use Rattle.roster_cost.specs.Amounts.{IsWithin}
use Rattle.roster_model.specs.Rules.{is_among}
use Rattle.roster_plan_bound.specs.declared.parts.TheConstants.{MOST_BEHIND}
use Rattle.roster_plan_bound.specs.Behinds.{row_at, row_for}
use Rattle.roster_plan_bound.specs.Chains.{value_at}
use Rattle.roster_plan_bound.specs.Timelines.{low_of, need_behind}
use Rattle.roster_plan_bound.proofs.leading.row_of.Goals as goal
use Rattle.roster_plan_bound.proofs.leading.row_of.Goals.{then-has, else-has}

pub lower_by-requires-clause-other : goal.lower_by-requires-clause-other
lower_by-requires-clause-other c =
    let timeline = c.args.valued.now.timeline.now in
    let known = c.requires.valued.is_timeline.known c.loop-s.s c.index-q.result.now (omega (arith, c.loop-s-test.true, c.requires.until)) in
    ((c.requires.valued.is_timeline.alone c.index-q.result.now).0
    (subst (λ q. is_among timeline.alone q ≡ true) (sym c.index-q.ensures) known)).0

pub loop-s-preserved : goal.loop-s-preserved
loop-s-preserved c =
    let timeline = c.args.valued.now.timeline.now in
    let inv = c.loop-s.invariant in
    let order = timeline.order.items in
    let here : slice_get order c.loop-s.s ≡ Some c.index-q.result.now =
    slice_get_read order (length order) c.loop-s.s c.index-q.result.now refl
    (omega (arith, c.loop-s-test.true, c.requires.until)) c.index-q.ensures in
    record {
      kept = λ class. elim c.if-has.branch [
        | then-has w ↦
            let before = inv.kept class in
            let now = w.lower_by.ensures.kept class in
            subst (λ r. row_at r class ≤ℤ to_z w64 (of_z w64 c.args.base)) (sym w.row-is) (omega (arith, ints, before, now))
        | else-has w ↦ subst (λ r. row_at r class ≤ℤ to_z w64 (of_z w64 c.args.base)) (sym w.row-is) (inv.kept class)
      ];
      unrested = λ s q class rows amount above below at among there low high least sum. elim (cases_eq s c.loop-s.s) [
        | inl same ↦
            let same_q : q ≡ c.index-q.result.now = same_Some q c.index-q.result.now (sym at ∙ ap (λ i. slice_get order i) same ∙ here) in
            elim c.if-has.branch [
              | then-has w ↦ subst (λ r. row_at r class ≤ℤ amount) (sym w.row-is)
                  (w.lower_by.ensures.led class rows amount (subst (λ i. slice_get c.args.behind.now.rows.items i ≡ Some rows) same_q there)
                  (subst (λ i. low_of timeline i ≤ class) same_q low) high least
                  (subst (λ i. (value_at c.args.valued.now.values.now i +ℤ row_at (row_for rows (need_behind timeline c.args.p i c.args.need)) class) ≤ℤ amount) same_q sum))
              | else-has w ↦
                  let sets = timeline.unrested.items in
                  let set : get_or sets c.args.p [] ≡ c.index.result.now =
                  get_or_from_slice_get sets c.args.p c.index.result.now []
                  (slice_get_read sets (length sets) c.args.p c.index.result.now refl (omega (arith, c.requires.valued.is_timeline.covers.unrested, ((c.requires.valued.is_timeline.alone c.args.p).0 c.requires.place).0)) c.index.ensures) in
                  let has = subst (λ i. is_among c.index.result.now i ≡ true) same_q (subst (λ l. is_among l q ≡ true) set among) in
                  absurd (false≢true (sym w.if-has.false ∙ c.has.ensures.value ∙ has))
            ]
        | inr other ↦
            let before = inv.unrested s q class rows amount above (omega (arith, below, other)) at among there low high least sum in
            elim c.if-has.branch [
              | then-has w ↦
                  let now = w.lower_by.ensures.kept class in
                  subst (λ r. row_at r class ≤ℤ amount) (sym w.row-is) (omega (arith, ints, before, now))
              | else-has w ↦ subst (λ r. row_at r class ≤ℤ amount) (sym w.row-is) before
            ]
      ];
      within = elim c.if-has.branch [
        | then-has w ↦ subst (All (IsWithin MOST_BEHIND)) (sym w.row-is) w.lower_by.ensures.within
        | else-has w ↦ subst (All (IsWithin MOST_BEHIND)) (sym w.row-is) inv.within
      ];
    }

pub returns : goal.returns
returns c =
    let base : ℤ = c.args.base in
    let within = c.requires.base.within in
    let fits : FitsSigned w64 base = search rules in
    record {
      kept = λ class. subst (λ z. row_at c.loop-s.row class ≤ℤ z) (to_z-of_z w64 base fits) (c.loop-s.invariant.kept class);
      unrested = λ s q class rows amount above below. c.loop-s.invariant.unrested s q class rows amount above (omega (arith, below, c.loop-s-test.false));
      within = c.loop-s.invariant.within;
    }
