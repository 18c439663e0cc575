use Rattle.std.proofs.Common.{◌≡◌, length, get_or, refl, sym, ap, ◌∙◌, subst, arith, ℤ, pos, ◌+ℤ◌, ◌≤ℤ◌, w64, to_z, of_z, FitsSigned, rules}
use Rattle.std.proofs.lemmas.Int.{to_z-of_z}
use Rattle.std.proofs.lemmas.Option.{get_or_from_slice_get, slice_get_read}
use Rattle.roster_cost.specs.Amounts.{IsWithin}
use Rattle.roster_plan_bound.specs.declared.parts.TheConstants.{MOST_STEP}
use Rattle.roster_plan_bound.specs.Behinds.{row_at}
use Rattle.roster_plan_bound.specs.Chains.{value_at}
use Rattle.roster_plan_bound.proofs.behind.led.Goals as goal

pub returns-clause-least : goal.returns-clause-least
returns-clause-least c amount least sum =
    let classes = c.args.valued.now.timeline.now.classes.items in
    let class : get_or classes c.args.p 0 ≡ c.index.result.now =
    get_or_from_slice_get classes c.args.p c.index.result.now 0
    (slice_get_read classes (length classes) c.args.p c.index.result.now refl (omega (arith, c.requires.valued.is_timeline.covers.classes, c.requires.place)) c.index.ensures) in
    let after : ℤ = c.at.result in
    let within = c.at.ensures.within c.requires.row in
    let fits : FitsSigned w64 after = search rules in
    let value : ℤ = value_at c.args.valued.now.values.now c.args.p in
    let value_within : IsWithin MOST_STEP value =
    c.requires.valued.within c.args.p (pos 0) (omega (arith, c.requires.valued.covers, c.requires.place)) in
    let value_fits : FitsSigned w64 value = search rules in
    let told = to_z-of_z w64 after fits ∙ c.at.ensures.value ∙ ap (row_at c.args.row.now) (sym class) in
    let brought : ℤ = c.brought.result in
    let brought_within = c.brought.ensures.within in
    let brought_fits : FitsSigned w64 brought = search rules in
    subst (λ z. z ≤ℤ amount) (sym (to_z-of_z w64 brought brought_fits))
    (c.brought.ensures.least amount least
    (subst (λ z. (z +ℤ to_z w64 (of_z w64 after)) ≤ℤ amount) (sym (to_z-of_z w64 value value_fits))
    (subst (λ z. (value +ℤ z) ≤ℤ amount) (sym told) sum)))
