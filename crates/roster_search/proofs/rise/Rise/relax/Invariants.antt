use Rattle.roster_search_regions.specs.Regions.{IsRegion}
use Rattle.roster_search.proofs.rise.Rise.relax.Given as goal

-- the part is a region
abbrev pub invariant-loop : goal.invariant-loop
invariant-loop g l = IsRegion l.problem l.self.part
