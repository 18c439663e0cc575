use Rattle.std.proofs.Common.{ℤ, ◌-ℤ◌, SFits, w64, sym, subst, arith, rules}
use Rattle.std.proofs.lemmas.Int.{ints, to_z-of_z}
use Rattle.roster_search_regions.specs.Units.{IsMultiple}
use Rattle.roster_search_fixing.proofs.UnitLemmas.{rest_of_division}
use Rattle.roster_search_fixing.proofs.costs.rest.Goals as goal

pub returns-clause-multiple : goal.returns-clause-multiple
returns-clause-multiple c =
    let region = c.args.region.now in
    let fits : SFits w64 c.rem_euclid.result = search rules in
    let above : ℤ = c.args.cost -ℤ region.idle in
    subst (λ (z : ℤ). IsMultiple region.unit (above -ℤ z)) (sym (to_z-of_z w64 c.rem_euclid.result fits))
    (rest_of_division region.unit above _ _ c.rem_euclid.result c.rem_euclid.ensures.value (omega (arith, c.unit.ensures.some, c.unit.ensures.value)) (omega (arith, ints, c.in_ok-above.ensures, c.idle.ensures)) (omega (arith, ints, c.unit.ensures.value, c.unit.ensures.bound)))
