use Rattle.std.proofs.Common.{◌≡◌, pos, ◌*◌, ◌+ℤ◌, ◌*ℤ◌, w64, to_z, of_z, arith, ap, ◌∙◌}
use Rattle.std.proofs.lemmas.Int.{ints}
use Rattle.roster_cost.specs.Amounts.{IsWithin}
use Rattle.roster_plan_bound.specs.declared.parts.TheConstants.{MOST_LADEN, MOST_FLIGHT, MOST_STEP, MOST_WORTH}
use Rattle.roster_plan_bound.proofs.ProductLemmas.{pos_within, times_within, told_in}
use Rattle.roster_plan_bound.proofs.worths.worth_value.Goals as goal

pub returns-clause-within : goal.returns-clause-within
returns-clause-within c =
    let units = c.args.units in
    let worth = c.args.worth in
    let flight = c.args.flight in
    let near = times_within worth (pos flight) MOST_WORTH MOST_FLIGHT c.requires.worth (pos_within MOST_FLIGHT flight c.requires.flight) in
    let low = near.0 in
    let high = near.1 in
    let low_units = c.requires.units.0 in
    let high_units = c.requires.units.1 in
    let cast : to_z w64 flight ≡ pos flight = omega (arith, ints, c.requires.flight) in
    let product : to_z w64 (of_z w64 worth) *ℤ to_z w64 flight ≡ worth *ℤ pos flight =
    ap (λ z. z *ℤ to_z w64 flight) (told_in MOST_WORTH worth c.requires.worth (omega arith)) ∙ ap (λ z. worth *ℤ z) cast in
    let product_told : to_z w64 (of_z w64 (to_z w64 (of_z w64 worth) *ℤ to_z w64 flight)) ≡ worth *ℤ pos flight =
    ap (λ z. to_z w64 (of_z w64 z)) product ∙ told_in (MOST_WORTH * MOST_FLIGHT) (worth *ℤ pos flight) near (omega arith) in
    let units_told = told_in MOST_LADEN units c.requires.units (omega arith) in
    let whole : to_z w64 (of_z w64 units) +ℤ to_z w64 (of_z w64 (to_z w64 (of_z w64 worth) *ℤ to_z w64 flight)) ≡ units +ℤ (worth *ℤ pos flight) =
    omega (arith, ints, units_told, product_told) in
    let within : IsWithin MOST_STEP (units +ℤ (worth *ℤ pos flight)) = (omega (arith, ints, low, low_units), omega (arith, ints, high, high_units)) in
    let told = ap (λ z. to_z w64 (of_z w64 z)) whole ∙ told_in MOST_STEP (units +ℤ (worth *ℤ pos flight)) within (omega arith) in
    (omega (arith, ints, told, low, low_units), omega (arith, ints, told, high, high_units))
