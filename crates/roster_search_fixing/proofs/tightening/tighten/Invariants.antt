use Rattle.roster_search_regions.specs.Regions.{IsNarrowed}
use Rattle.roster_search_fixing.specs.Bounds.{CostsAtMost}
use Rattle.roster_search_fixing.proofs.tightening.tighten.Given as goal

-- no roster within the cost is lost so far
abbrev pub invariant-loop : goal.invariant-loop
invariant-loop l = IsNarrowed l.problem (CostsAtMost l.problem l.most) l.initial.region l.region
