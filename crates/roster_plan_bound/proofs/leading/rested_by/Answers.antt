use Rattle.std.proofs.Common.{◌≡◌, ℕ, length, get_or, refl, sym, subst, arith, ℤ, ◌+ℤ◌, ◌≤ℤ◌, w64, to_z, of_z, FitsSigned, rules}
use Rattle.std.proofs.lemmas.Int.{ints, to_z-of_z}
use Rattle.std.proofs.lemmas.Option.{get_or_from_slice_get, slice_get_read}
use Rattle.roster_plan_bound.specs.Behinds.{row_at, row_for}
use Rattle.roster_plan_bound.specs.Chains.{value_at}
use Rattle.roster_plan_bound.specs.Timelines.{need_behind}
use Rattle.roster_plan_bound.proofs.leading.rested_by.Goals as goal

pub returns-clause-rested : goal.returns-clause-rested
returns-clause-rested c later broken rows amount at least sum =
    let timeline = c.args.valued.now.timeline.now in
    let classes = timeline.classes.items in
    let class : get_or classes c.args.q 0 ≡ c.index-2.result.now =
    get_or_from_slice_get classes c.args.q c.index-2.result.now 0
    (slice_get_read classes (length classes) c.args.q c.index-2.result.now refl (omega (arith, c.requires.valued.is_timeline.covers.classes, c.requires.other)) c.index-2.ensures) in
    let brings : ℕ → ℕ → Type 0 = λ need i. (value_at c.args.valued.now.values.now c.args.q +ℤ row_at (row_for rows need) i) ≤ℤ amount in
    let left = need_behind timeline c.args.p c.args.q c.args.need in
    let told = c.through.ensures.least rows amount at least (subst (λ need. brings need c.index-2.result.now) (sym c.need_behind-left.ensures) (subst (brings left) class sum)) in
    let led : ℤ = c.through.result in
    let led_within = c.through.ensures.within in
    let led_fits : FitsSigned w64 led = search rules in
    let led_told : to_z w64 (of_z w64 led) ≡ led = to_z-of_z w64 led led_fits in
    let result : ℤ = c.lesser.result in
    let result_within = c.lesser.ensures.within in
    let result_fits : FitsSigned w64 result = search rules in
    let result_told : to_z w64 (of_z w64 result) ≡ result = to_z-of_z w64 result result_fits in
    omega (arith, ints, told, led_told, result_told, c.lesser.ensures.second)
