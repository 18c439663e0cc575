use Rattle.roster_search_regions.specs.Regions.{IsIn}
use Rattle.roster_search_least.specs.Least.{CostsAtLeast}
use Rattle.roster_search_least.proofs.CheapestLemmas.{distance_up}
use Rattle.roster_search_least.proofs.cheapest.cheapest.Given as goal

-- nothing costs less than `low`
abbrev pub invariant-loop-low : goal.invariant-loop-low
invariant-loop-low g l = record {
  least : CostsAtLeast l.problem (IsIn l.problem l.region) l.low;
  goes_on : g.F.Finder.goes_on l.initial.finder l.finder;
}

abbrev pub decreases-loop-low : goal.decreases-loop-low
decreases-loop-low g l = distance_up l.low l.limit
