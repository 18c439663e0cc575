use Rattle.roster_search_regions.specs.Regions.{IsNarrowed}
use Rattle.roster_search_fixing.specs.Propagation.{Anything}
use Rattle.roster_search_fixing.proofs.propagate.propagate.Given as goal

-- no roster is lost so far
abbrev pub invariant-loop-p : goal.invariant-loop-p
invariant-loop-p l = IsNarrowed l.problem Anything l.initial.region l.region
