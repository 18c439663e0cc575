use Rattle.roster_search_regions.specs.Regions.{IsNarrowed}
use Rattle.roster_search_fixing.specs.Bounds.{CostsAtMost}
use Rattle.roster_search.proofs.refining.fix_by_solutions.Given as goal

-- what is left has all that is cheap
abbrev pub invariant-loop : goal.invariant-loop
invariant-loop l = IsNarrowed l.fn.problem (CostsAtMost l.fn.problem l.fn.most) l.fn.region l.region
