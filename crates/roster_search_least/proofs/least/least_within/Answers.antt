use Rattle.std.proofs.Common.{w64, ℤ, Some, to_z, of_z, subst}
use Rattle.std.proofs.lemmas.Int.{to_z-of_z}
use Rattle.roster_search_regions.specs.Regions.{IsIn}
use Rattle.roster_search_least.specs.Least.{CostsAtLeast, IsCheapestBelow, IsLeastBelow}
use Rattle.roster_search_least.proofs.FindLemmas.{least_below}
use Rattle.roster_search_least.proofs.least.least_within.Goals as goal

pub returns-in_ok-first_of_all-in-Some-clause-least : goal.returns-in_ok-first_of_all-in-Some-clause-least
returns-in_ok-first_of_all-in-Some-clause-least g c =
    let problem = c.args.problem.now in
    let Here = IsIn problem c.args.region.now in
    let limit : ℤ = to_z w64 (of_z w64 c.args.limit) in
    let cheapest = subst (IsCheapestBelow problem Here limit) c.in-Some.is c.in_ok-roster.ensures.cheapest in
    let least = least_below problem Here limit c.in-Some.roster c.first_of_all.new.roster cheapest c.in_ok-first_of_all-in-Some.ensures.settled in
    subst (λ limit. IsLeastBelow problem Here limit (Some c.first_of_all.new.roster))
    (to_z-of_z w64 c.args.limit c.ranges.limit) least

pub returns-in_ok-first_of_all-in-Some-clause-goes_on : goal.returns-in_ok-first_of_all-in-Some-clause-goes_on
returns-in_ok-first_of_all-in-Some-clause-goes_on g c =
    g.met.F.Finder.follows _ _ _ c.cheapest_from.ensures.goes_on c.first_of_all.ensures.goes_on

pub returns-in_err-first_of_all-in-Some-clause-goes_on : goal.returns-in_err-first_of_all-in-Some-clause-goes_on
returns-in_err-first_of_all-in-Some-clause-goes_on g c =
    g.met.F.Finder.follows _ _ _ c.cheapest_from.ensures.goes_on c.first_of_all.ensures.goes_on

pub returns-in-None-clause-least : goal.returns-in-None-clause-least
returns-in-None-clause-least g c =
    let problem = c.args.problem.now in
    let Here = IsIn problem c.args.region.now in
    let limit : ℤ = to_z w64 (of_z w64 c.args.limit) in
    let none = subst (IsCheapestBelow problem Here limit) c.in-None.is c.in_ok-roster.ensures.cheapest in
    subst (CostsAtLeast problem Here) (to_z-of_z w64 c.args.limit c.ranges.limit) none

pub cheapest_from-requires-clause-least : goal.cheapest_from-requires-clause-least
cheapest_from-requires-clause-least g c = λ others legal _. c.costs_fit.ensures.low others legal

pub returns-in_err-known-clause-goes_on : goal.returns-in_err-known-clause-goes_on
returns-in_err-known-clause-goes_on g c = g.met.F.Finder.stays _
