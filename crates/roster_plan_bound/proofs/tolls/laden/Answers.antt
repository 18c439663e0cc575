use Rattle.std.proofs.Common.{◌≡◌, pos, ◌*◌, ◌+ℤ◌, ◌*ℤ◌, w64, to_z, of_z, arith, ap, ◌∙◌}
use Rattle.std.proofs.lemmas.Int.{ints}
use Rattle.roster_model.specs.declared.limits.TheConstants.{MOST_PAIRINGS}
use Rattle.roster_cost.specs.Amounts.{IsWithin}
use Rattle.roster_plan_bound.specs.declared.parts.TheConstants.{MOST_CHAIN_VALUE, MOST_LADEN, MOST_LOAD, MOST_TOLL}
use Rattle.roster_plan_bound.proofs.ProductLemmas.{pos_within, times_within, told_in}
use Rattle.roster_plan_bound.proofs.tolls.laden.Goals as goal

pub returns-clause-within : goal.returns-clause-within
returns-clause-within c =
    let value = c.args.value in
    let toll = c.args.toll in
    let load = c.args.load in
    let near = times_within toll (pos load) MOST_TOLL MOST_LOAD c.requires.toll (pos_within MOST_LOAD load c.requires.load) in
    let low = near.0 in
    let high = near.1 in
    let low_value = c.requires.value.0 in
    let high_value = c.requires.value.1 in
    let cast : to_z w64 load ≡ pos load = omega (arith, ints, c.requires.load) in
    let product : to_z w64 (of_z w64 toll) *ℤ to_z w64 load ≡ toll *ℤ pos load =
    ap (λ z. z *ℤ to_z w64 load) (told_in MOST_TOLL toll c.requires.toll (omega arith)) ∙ ap (λ z. toll *ℤ z) cast in
    let product_told : to_z w64 (of_z w64 (to_z w64 (of_z w64 toll) *ℤ to_z w64 load)) ≡ toll *ℤ pos load =
    ap (λ z. to_z w64 (of_z w64 z)) product ∙ told_in (MOST_TOLL * MOST_LOAD) (toll *ℤ pos load) near (omega arith) in
    let value_told = told_in (MOST_PAIRINGS * MOST_CHAIN_VALUE) value c.requires.value (omega arith) in
    let whole : to_z w64 (of_z w64 value) +ℤ to_z w64 (of_z w64 (to_z w64 (of_z w64 toll) *ℤ to_z w64 load)) ≡ value +ℤ (toll *ℤ pos load) =
    omega (arith, ints, value_told, product_told) in
    let within : IsWithin MOST_LADEN (value +ℤ (toll *ℤ pos load)) = (omega (arith, ints, low, low_value), omega (arith, ints, high, high_value)) in
    let told = ap (λ z. to_z w64 (of_z w64 z)) whole ∙ told_in MOST_LADEN (value +ℤ (toll *ℤ pos load)) within (omega arith) in
    (omega (arith, ints, told, low, low_value), omega (arith, ints, told, high, high_value))
