use Rattle.std.proofs.Common.{ℤ, ◌-ℤ◌, w64, subst, arith}
use Rattle.std.proofs.lemmas.Int.{ints, to_z-of_z}
use Rattle.roster_model.specs.Costs.{cost_of}
use Rattle.roster_search_regions.specs.Units.{IsMultiple}
use Rattle.roster_search_fixing.proofs.UnitLemmas.{no_more}
use Rattle.roster_search_fixing.proofs.costs.cost_at_most.Goals as goal

pub returns-in-Some-checked_sub-clause-same : goal.returns-in-Some-checked_sub-clause-same
returns-in-Some-checked_sub-clause-same c places there within =
    let region = c.args.region.now in
    let multiple = subst (λ (m : ℤ). IsMultiple region.unit ((m -ℤ region.idle) -ℤ c.in-Some.rest)) (to_z-of_z w64 c.args.most c.ranges.most) c.in-Some.ensures.multiple in
    let cost : ℤ = cost_of c.args.problem.now places in
    let less = no_more region.unit (cost -ℤ region.idle) (c.args.most -ℤ region.idle) c.in-Some.rest (c.requires.units places there) multiple c.in-Some.ensures.high (omega (arith, ints, within)) in
    omega (arith, ints, less, c.in-Some-checked_sub.ensures)
