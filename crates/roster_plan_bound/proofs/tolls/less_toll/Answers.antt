use Rattle.std.proofs.Common.{◌≡◌, pos, ◌*◌, ◌-ℤ◌, ◌*ℤ◌, w64, to_z, of_z, arith, ap, ◌∙◌}
use Rattle.std.proofs.lemmas.Int.{ints}
use Rattle.roster_cost.specs.Amounts.{IsWithin}
use Rattle.roster_plan_bound.specs.declared.parts.TheConstants.{MOST_BESIDE, MOST_LEAST, MOST_LOAD, MOST_TOLL}
use Rattle.roster_plan_bound.proofs.ProductLemmas.{pos_within, times_within, told_in}
use Rattle.roster_plan_bound.proofs.tolls.less_toll.Goals as goal

pub returns-clause-within : goal.returns-clause-within
returns-clause-within c =
    let fixed = c.args.fixed in
    let toll = c.args.toll in
    let spare = c.args.spare in
    let near = times_within toll (pos spare) MOST_TOLL MOST_LOAD c.requires.toll (pos_within MOST_LOAD spare c.requires.spare) in
    let low = near.0 in
    let high = near.1 in
    let low_fixed = c.requires.fixed.0 in
    let high_fixed = c.requires.fixed.1 in
    let cast : to_z w64 spare ≡ pos spare = omega (arith, ints, c.requires.spare) in
    let product : to_z w64 (of_z w64 toll) *ℤ to_z w64 spare ≡ toll *ℤ pos spare =
    ap (λ z. z *ℤ to_z w64 spare) (told_in MOST_TOLL toll c.requires.toll (omega arith)) ∙ ap (λ z. toll *ℤ z) cast in
    let product_told : to_z w64 (of_z w64 (to_z w64 (of_z w64 toll) *ℤ to_z w64 spare)) ≡ toll *ℤ pos spare =
    ap (λ z. to_z w64 (of_z w64 z)) product ∙ told_in (MOST_TOLL * MOST_LOAD) (toll *ℤ pos spare) near (omega arith) in
    let fixed_told = told_in MOST_LEAST fixed c.requires.fixed (omega arith) in
    let whole : to_z w64 (of_z w64 fixed) -ℤ to_z w64 (of_z w64 (to_z w64 (of_z w64 toll) *ℤ to_z w64 spare)) ≡ fixed -ℤ (toll *ℤ pos spare) =
    omega (arith, ints, fixed_told, product_told) in
    let within : IsWithin MOST_BESIDE (fixed -ℤ (toll *ℤ pos spare)) = (omega (arith, ints, high, low_fixed), omega (arith, ints, low, high_fixed)) in
    let told = ap (λ z. to_z w64 (of_z w64 z)) whole ∙ told_in MOST_BESIDE (fixed -ℤ (toll *ℤ pos spare)) within (omega arith) in
    (omega (arith, ints, told, high, low_fixed), omega (arith, ints, told, low, high_fixed))
