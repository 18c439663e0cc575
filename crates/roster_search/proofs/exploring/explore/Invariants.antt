use Rattle.std.proofs.Common.{◌+◌, pos, neg_ℤ, ◌-ℤ◌, ◌^◌}
use Rattle.roster_search_regions.specs.Regions.{IsIn}
use Rattle.roster_search_least.proofs.CheapestLemmas.{distance_up}
use Rattle.roster_search.specs.Open.{limit_of, weight_of, IsExplored, IsInSome}
use Rattle.roster_search.proofs.exploring.explore.Given as goal

-- what is found, and what is left
abbrev pub invariant-loop-most : goal.invariant-loop-most
invariant-loop-most g l = record {
  explored : IsExplored l.problem (IsIn l.problem l.whole) (IsInSome l.problem l.fn.nodes.items) l.budget.most l.best l.left.items;
  goes_on : g.S.Stop.goes_on l.initial.stop l.stop;
}

-- there is less left to search, or less may be paid
abbrev pub decreases-loop-most : goal.decreases-loop-most
decreases-loop-most g l = weight_of l.left.items + distance_up (neg_ℤ (pos (2 ^ 63)) -ℤ pos 1) (limit_of l.budget.most l.best)
