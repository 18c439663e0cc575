use Rattle.roster_search_regions.specs.Regions.{IsRegion}
use Rattle.roster_search.proofs.rise.Rise.end.Given as goal

-- the part is a region
abbrev pub invariant-loop-step : goal.invariant-loop-step
invariant-loop-step g l = IsRegion l.problem l.self.part
