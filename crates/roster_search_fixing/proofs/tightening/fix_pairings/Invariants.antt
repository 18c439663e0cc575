use Rattle.roster_search_regions.specs.Regions.{IsNarrowed}
use Rattle.roster_search_fixing.specs.Bounds.{CostsAtMost}
use Rattle.roster_search_fixing.proofs.tightening.fix_pairings.Given as goal

-- no roster within the cost is lost so far
abbrev pub invariant-loop-p : goal.invariant-loop-p
invariant-loop-p l = IsNarrowed l.problem (CostsAtMost l.problem l.most) l.initial.region l.region
