use Rattle.roster_search_regions.specs.Regions.{IsNarrowed}
use Rattle.roster_search_fixing.specs.Propagation.{Anything}
use Rattle.roster_search_fixing.proofs.propagate.deny_taken.Given as goal

-- no roster is lost so far
abbrev pub invariant-loop-k : goal.invariant-loop-k
invariant-loop-k l = IsNarrowed l.problem Anything l.initial.region l.region
