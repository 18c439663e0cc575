use Rattle.std.proofs.Common.{◌≡◌, length, get_or, Some, refl, sym, ap, ◌∙◌, subst, arith, ℤ, pos, ◌+ℤ◌, ◌≤ℤ◌, w64, FitsSigned, rules}
use Rattle.std.specs.Prelude.{All, slice_get}
use Rattle.std.proofs.lemmas.Int.{to_z-of_z}
use Rattle.std.proofs.lemmas.Option.{get_or_from_slice_get, same_Some, slice_get_read}
use Rattle.roster_cost.specs.Amounts.{IsWithin}
use Rattle.roster_plan_bound.specs.declared.parts.TheConstants.{MOST_BEHIND, MOST_STEP}
use Rattle.roster_plan_bound.specs.Behinds.{row_at, row_for}
use Rattle.roster_plan_bound.specs.Chains.{value_at}
use Rattle.roster_plan_bound.specs.Timelines.{need_behind}
use Rattle.roster_plan_bound.proofs.leading.lower_by.Goals as goal

pub lower-requires-clause-after : goal.lower-requires-clause-after
lower-requires-clause-after c =
    let rows = c.args.behind.now.rows.items in
    let here : slice_get rows c.args.q ≡ Some c.index-3.result.now =
    slice_get_read rows (length rows) c.args.q c.index-3.result.now refl
    (omega (arith, c.requires.behind.covers, c.requires.other)) c.index-3.ensures in
    let known = c.requires.behind.rows c.args.q c.index-3.result.now here c.need_behind-left.result in
    subst (All (IsWithin MOST_BEHIND)) (sym c.row.ensures) known.within

pub returns-clause-led : goal.returns-clause-led
returns-clause-led c class after amount at low high least sum =
    let timeline = c.args.valued.now.timeline.now in
    let covers = c.requires.valued.is_timeline.covers in
    let rows = c.args.behind.now.rows.items in
    let lows = timeline.lows.items in
    let classes = timeline.classes.items in
    let low_is : get_or lows c.args.q 0 ≡ c.index.result.now =
    get_or_from_slice_get lows c.args.q c.index.result.now 0
    (slice_get_read lows (length lows) c.args.q c.index.result.now refl (omega (arith, covers.lows, c.requires.other)) c.index.ensures) in
    let high_is : get_or classes c.args.p 0 ≡ c.index-2.result.now =
    get_or_from_slice_get classes c.args.p c.index-2.result.now 0
    (slice_get_read classes (length classes) c.args.p c.index-2.result.now refl (omega (arith, covers.classes, c.requires.place)) c.index-2.ensures) in
    let here : slice_get rows c.args.q ≡ Some c.index-3.result.now =
    slice_get_read rows (length rows) c.args.q c.index-3.result.now refl
    (omega (arith, c.requires.behind.covers, c.requires.other)) c.index-3.ensures in
    let same = same_Some c.index-3.result.now after (sym here ∙ at) in
    let value : ℤ = value_at c.args.valued.now.values.now c.args.q in
    let within : IsWithin MOST_STEP value =
    c.requires.valued.within c.args.q (pos 0) (omega (arith, c.requires.valued.covers, c.requires.other)) in
    let fits : FitsSigned w64 value = search rules in
    let left = need_behind timeline c.args.p c.args.q c.args.need in
    let row : c.row.result.now ≡ row_for after left =
    c.row.ensures ∙ ap (λ rows. row_for rows c.need_behind-left.result) same ∙ ap (row_for after) c.need_behind-left.ensures in
    c.lower.ensures.led class amount (omega (arith, low_is, low)) (omega (arith, high_is, high)) least
    (subst (λ z. (z +ℤ row_at c.row.result.now class) ≤ℤ amount) (sym (to_z-of_z w64 value fits))
    (subst (λ r. (value +ℤ row_at r class) ≤ℤ amount) (sym row) sum))
