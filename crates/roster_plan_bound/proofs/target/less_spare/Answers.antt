use Rattle.std.proofs.Common.{◌≡◌, pos, ◌*◌, ◌-ℤ◌, ◌*ℤ◌, w64, to_z, of_z, arith, ap, ◌∙◌}
use Rattle.std.proofs.lemmas.Int.{ints}
use Rattle.roster_model.specs.declared.profile.TheConstants.{MOST_FLIGHT_IN_A_YEAR}
use Rattle.roster_cost.specs.Amounts.{IsWithin}
use Rattle.roster_plan_bound.specs.declared.parts.TheConstants.{MOST_FIXED, MOST_LEAST, MOST_WORTH}
use Rattle.roster_plan_bound.proofs.ProductLemmas.{pos_within, times_within, told_in}
use Rattle.roster_plan_bound.proofs.target.less_spare.Goals as goal

pub returns-clause-within : goal.returns-clause-within
returns-clause-within c =
    let fixed = c.args.fixed in
    let worth = c.args.worth in
    let spare = c.args.spare in
    let near = times_within worth (pos spare) MOST_WORTH MOST_FLIGHT_IN_A_YEAR c.requires.worth (pos_within MOST_FLIGHT_IN_A_YEAR spare c.requires.spare) in
    let low = near.0 in
    let high = near.1 in
    let low_fixed = c.requires.fixed.0 in
    let high_fixed = c.requires.fixed.1 in
    let cast : to_z w64 spare ≡ pos spare = omega (arith, ints, c.requires.spare) in
    let product : to_z w64 (of_z w64 worth) *ℤ to_z w64 spare ≡ worth *ℤ pos spare =
    ap (λ z. z *ℤ to_z w64 spare) (told_in MOST_WORTH worth c.requires.worth (omega arith)) ∙ ap (λ z. worth *ℤ z) cast in
    let product_told : to_z w64 (of_z w64 (to_z w64 (of_z w64 worth) *ℤ to_z w64 spare)) ≡ worth *ℤ pos spare =
    ap (λ z. to_z w64 (of_z w64 z)) product ∙ told_in (MOST_WORTH * MOST_FLIGHT_IN_A_YEAR) (worth *ℤ pos spare) near (omega arith) in
    let fixed_told = told_in MOST_FIXED fixed c.requires.fixed (omega arith) in
    let whole : to_z w64 (of_z w64 fixed) -ℤ to_z w64 (of_z w64 (to_z w64 (of_z w64 worth) *ℤ to_z w64 spare)) ≡ fixed -ℤ (worth *ℤ pos spare) =
    omega (arith, ints, fixed_told, product_told) in
    let within : IsWithin MOST_LEAST (fixed -ℤ (worth *ℤ pos spare)) = (omega (arith, ints, high, low_fixed), omega (arith, ints, low, high_fixed)) in
    let told = ap (λ z. to_z w64 (of_z w64 z)) whole ∙ told_in MOST_LEAST (fixed -ℤ (worth *ℤ pos spare)) within (omega arith) in
    (omega (arith, ints, told, high, low_fixed), omega (arith, ints, told, low, high_fixed))
