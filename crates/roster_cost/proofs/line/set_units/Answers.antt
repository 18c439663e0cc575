use Rattle.std.proofs.Common.{◌+◌, ap, ◌∙◌, arith}
use Rattle.std.proofs.lemmas.Int.{ints}
use Rattle.roster_model.specs.Costs.{total}
use Rattle.roster_model.specs.Problem.{units_of}
use Rattle.roster_model.specs.declared.limits.TheConstants.{MOST_UNITS}
use Rattle.roster_model.proofs.CostLemmas.{total-nil, total-cons}
use Rattle.roster_values.specs.Set.{places_from}
use Rattle.roster_cost.proofs.Fits.{within_from_abs}
use Rattle.roster_cost.proofs.line.set_units.Goals as goal

pub loop-p-preserved : goal.loop-p-preserved
loop-p-preserved c =
    let units = units_of c.args.problem.now c.args.k in
    let p = c.in-Some.p in
    let next =
    ap (total units) c.in-Some.ensures.rest ∙ total-cons units p (places_from (p + 1) c.args.set.now) in
    let few = within_from_abs c.units-units.result MOST_UNITS c.units-units.ensures.bound in
    let so_far = c.loop-p.invariant.so_far in
    let low = c.loop-p.invariant.bound.0 in
    let high = c.loop-p.invariant.bound.1 in
    let after = c.in-Some.ensures.place.0 in
    let within = c.in-Some.ensures.place.1 in
    record {
      so_far =
          omega
          (arith, ints, so_far, next, c.units-units.ensures.value, few.0, few.1, low, high, after, within);
      bound = (omega (arith, ints, few.0, few.1, low, high, after, within), omega (arith, ints, few.0, few.1, low, high, after, within));
      within = omega (arith, within);
    }

pub returns-clause-value : goal.returns-clause-value
returns-clause-value c =
    let units = units_of c.args.problem.now c.args.k in
    let none = ap (total units) c.in_default.ensures.rest ∙ total-nil units in
    omega (arith, ints, c.loop-p.invariant.so_far, none, ap (total units) c.in_default.ensures.whole)
