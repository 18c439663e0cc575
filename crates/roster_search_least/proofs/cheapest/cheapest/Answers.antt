use Rattle.std.proofs.Common.{w64, ℤ, ◌<ℤ◌, Some, to_z, of_z, arith, subst}
use Rattle.std.proofs.lemmas.Int.{ints, to_z-of_z}
use Rattle.roster_search_regions.specs.Regions.{IsIn}
use Rattle.roster_search_least.specs.Least.{IsCheapestBelow, IsCheapestWithin}
use Rattle.roster_search_least.proofs.CheapestLemmas.{cheapest_found, found_in_copy, raised_least}
use Rattle.roster_search_least.proofs.cheapest.cheapest.Goals as goal

pub returns-in-Some-clause-cheapest : goal.returns-in-Some-clause-cheapest
returns-in-Some-clause-cheapest g c =
    let problem = c.args.problem.now in
    let Here = IsIn problem c.args.region.now in
    let most : ℤ = to_z w64 (of_z w64 c.raised-most.result) in
    let low : ℤ = to_z w64 c.loop-low.low-bits in
    let limit : ℤ = to_z w64 (of_z w64 c.args.limit) in
    let below : most <ℤ limit = omega (arith, ints, c.raised-most.ensures.below) in
    let found = subst (IsCheapestWithin problem Here most low) c.in-Some.is (found_in_copy problem c.args.region.now c.in_ok-copy.field-0 most low c.in_ok-roster.field-0 c.in_ok-copy.ensures c.in_ok-roster.ensures.found) in
    subst (λ limit. IsCheapestBelow problem Here limit (Some c.in-Some.roster)) (to_z-of_z w64 c.args.limit c.ranges.limit)
    (cheapest_found problem Here most low limit c.in-Some.roster c.loop-low.invariant.least below found)

pub returns-in-Some-clause-goes_on : goal.returns-in-Some-clause-goes_on
returns-in-Some-clause-goes_on g c = g.met.F.Finder.follows _ _ _ c.loop-low.invariant.goes_on c.find.ensures.goes_on

pub loop-low-preserved : goal.loop-low-preserved
loop-low-preserved g c =
    let problem = c.args.problem.now in
    let Here = IsIn problem c.args.region.now in
    let most : ℤ = to_z w64 (of_z w64 c.raised-most.result) in
    let low : ℤ = to_z w64 c.loop-low.low-bits in
    let none = subst (IsCheapestWithin problem Here most low) c.in-None.is (found_in_copy problem c.args.region.now c.in_ok-copy.field-0 most low c.in_ok-roster.field-0 c.in_ok-copy.ensures c.in_ok-roster.ensures.found) in
    record {
      least = raised_least problem Here most _ none (λ places there above.
          let least = c.cost_above-low.ensures.least places there (omega (arith, ints, above)) in
          omega (arith, ints, least));
      goes_on = g.met.F.Finder.follows _ _ _ c.loop-low.invariant.goes_on c.find.ensures.goes_on;
    }

pub returns-in_err-roster-clause-goes_on : goal.returns-in_err-roster-clause-goes_on
returns-in_err-roster-clause-goes_on g c =
    g.met.F.Finder.follows _ _ _ c.loop-low.invariant.goes_on c.find.ensures.goes_on
