use Rattle.std.proofs.Common.{◌≡◌, length, Some, sym, ap, ◌∙◌, subst, arith, refl, ℤ, pos, ◌+ℤ◌, ◌≤ℤ◌, w64, to_z, of_z, FitsSigned, rules}
use Rattle.std.specs.Prelude.{All, slice_get}
use Rattle.std.proofs.lemmas.Int.{to_z-of_z}
use Rattle.std.proofs.lemmas.Option.{same_Some, slice_get_read}
use Rattle.roster_cost.specs.Amounts.{IsWithin}
use Rattle.roster_plan_bound.specs.declared.parts.TheConstants.{MOST_BEHIND, MOST_STEP}
use Rattle.roster_plan_bound.specs.Behinds.{row_at, row_for}
use Rattle.roster_plan_bound.specs.Chains.{value_at}
use Rattle.roster_plan_bound.proofs.leading.through.Goals as goal

pub brought-requires-clause-after : goal.brought-requires-clause-after
brought-requires-clause-after c =
    let rows = c.args.behind.now.rows.items in
    let here : slice_get rows c.args.q ≡ Some c.index.result.now =
    slice_get_read rows (length rows) c.args.q c.index.result.now refl
    (omega (arith, c.requires.behind.covers, c.requires.place)) c.index.ensures in
    let after : ℤ = c.at.result in
    let within = c.at.ensures.within (subst (All (IsWithin MOST_BEHIND)) (sym c.row.ensures) (c.requires.behind.rows c.args.q c.index.result.now here c.args.need).within) in
    let fits : FitsSigned w64 after = search rules in
    subst (IsWithin MOST_BEHIND) (sym (to_z-of_z w64 after fits)) within

pub returns-clause-least : goal.returns-clause-least
returns-clause-least c found amount at least sum =
    let rows = c.args.behind.now.rows.items in
    let here : slice_get rows c.args.q ≡ Some c.index.result.now =
    slice_get_read rows (length rows) c.args.q c.index.result.now refl
    (omega (arith, c.requires.behind.covers, c.requires.place)) c.index.ensures in
    let after : ℤ = c.at.result in
    let within = c.at.ensures.within (subst (All (IsWithin MOST_BEHIND)) (sym c.row.ensures) (c.requires.behind.rows c.args.q c.index.result.now here c.args.need).within) in
    let fits : FitsSigned w64 after = search rules in
    let value : ℤ = value_at c.args.valued.now.values.now c.args.q in
    let value_within : IsWithin MOST_STEP value =
    c.requires.valued.within c.args.q (pos 0) (omega (arith, c.requires.valued.covers, c.requires.place)) in
    let value_fits : FitsSigned w64 value = search rules in
    let same = same_Some c.index.result.now found (sym here ∙ at) in
    let row : c.row.result.now ≡ row_for found c.args.need = c.row.ensures ∙ ap (λ r. row_for r c.args.need) same in
    let told = to_z-of_z w64 after fits ∙ c.at.ensures.value ∙ ap (λ r. row_at r c.args.class) row in
    let brought : ℤ = c.brought.result in
    let brought_within = c.brought.ensures.within in
    let brought_fits : FitsSigned w64 brought = search rules in
    subst (λ z. z ≤ℤ amount) (sym (to_z-of_z w64 brought brought_fits))
    (c.brought.ensures.least amount least
    (subst (λ z. (z +ℤ to_z w64 (of_z w64 after)) ≤ℤ amount) (sym (to_z-of_z w64 value value_fits))
    (subst (λ z. (value +ℤ z) ≤ℤ amount) (sym told) sum)))
