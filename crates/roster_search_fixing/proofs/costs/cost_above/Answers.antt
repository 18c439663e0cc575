use Rattle.std.proofs.Common.{ℤ, ◌-ℤ◌, w64, subst, arith}
use Rattle.std.proofs.lemmas.Int.{ints, to_z-of_z}
use Rattle.roster_model.specs.Costs.{cost_of}
use Rattle.roster_search_regions.specs.Units.{IsMultiple}
use Rattle.roster_search_fixing.proofs.UnitLemmas.{no_less}
use Rattle.roster_search_fixing.proofs.costs.cost_above.Goals as goal

pub returns-in-Some-checked_add-clause-least : goal.returns-in-Some-checked_add-clause-least
returns-in-Some-checked_add-clause-least c places there above =
    let region = c.args.region.now in
    let multiple = subst (λ (m : ℤ). IsMultiple region.unit ((m -ℤ region.idle) -ℤ c.in-Some.rest)) (to_z-of_z w64 c.args.most c.ranges.most) c.in-Some.ensures.multiple in
    let cost : ℤ = cost_of c.args.problem.now places in
    let more = no_less region.unit (cost -ℤ region.idle) (c.args.most -ℤ region.idle) c.in-Some.rest (c.requires.region.units places there) multiple c.in-Some.ensures.low (omega (arith, ints, above)) in
    omega (arith, ints, more, c.in-Some-checked_add.ensures, c.unit.ensures.value, c.unit.ensures.bound, c.in-Some.ensures.low, c.in-Some.ensures.high)
