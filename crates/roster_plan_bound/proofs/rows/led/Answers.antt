use Rattle.std.proofs.Common.{ℤ, pos, w64, to_z, of_z, ◌≡◌, FitsSigned, arith, rules}
use Rattle.std.proofs.lemmas.Int.{ints, to_z-of_z}
use Rattle.roster_cost.specs.Amounts.{IsWithin}
use Rattle.roster_plan_bound.specs.declared.parts.TheConstants.{MOST_AMOUNT}
use Rattle.roster_plan_bound.specs.Chains.{value_at}
use Rattle.roster_plan_bound.proofs.rows.led.Goals as goal

pub overflow_add-result : goal.overflow_add-result
overflow_add-result c =
    let after : ℤ = value_at c.args.after.now c.args.f in
    let within : IsWithin MOST_AMOUNT after = c.requires.after c.args.f (pos 0) c.requires.inside in
    let fits : FitsSigned w64 after = search rules in
    let told : to_z w64 (of_z w64 after) ≡ after = to_z-of_z w64 after fits in
    let own = to_z-of_z w64 c.args.value c.ranges.value in
    let low = within.0 in
    let high = within.1 in
    let low_own = c.requires.value.0 in
    let high_own = c.requires.value.1 in
    search rules

pub returns-clause-value : goal.returns-clause-value
returns-clause-value c =
    let after : ℤ = value_at c.args.after.now c.args.f in
    let within : IsWithin MOST_AMOUNT after = c.requires.after c.args.f (pos 0) c.requires.inside in
    let fits : FitsSigned w64 after = search rules in
    let told : to_z w64 (of_z w64 after) ≡ after = to_z-of_z w64 after fits in
    let own = to_z-of_z w64 c.args.value c.ranges.value in
    omega (arith, ints, told, own)

pub returns-clause-within : goal.returns-clause-within
returns-clause-within c most all =
    let after : ℤ = value_at c.args.after.now c.args.f in
    let within : IsWithin MOST_AMOUNT after = c.requires.after c.args.f (pos 0) c.requires.inside in
    let fits : FitsSigned w64 after = search rules in
    let told : to_z w64 (of_z w64 after) ≡ after = to_z-of_z w64 after fits in
    let own = to_z-of_z w64 c.args.value c.ranges.value in
    let here : IsWithin most after = all c.args.f (pos 0) c.requires.inside in
    let low = here.0 in
    let high = here.1 in
    let low_own = c.requires.value.0 in
    let high_own = c.requires.value.1 in
    (omega (arith, ints, told, own, low, low_own), omega (arith, ints, told, own, high, high_own))
