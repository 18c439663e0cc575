use Rattle.roster_search_regions.proofs.RegionLemmas.{narrowed_most_open}
use Rattle.roster_search_regions.proofs.region.Region.open_at_most.Goals as goal

pub returns-clause-narrowed : goal.returns-clause-narrowed
returns-clause-narrowed c =
    rw c.self.view_is at (narrowed_most_open c.args.problem.now _ c.args.count (rw (← c.self.view_is) at c.requires.region) (rw (← c.self.view_is) at c.requires.most))

pub returns-clause-all : goal.returns-clause-all
returns-clause-all c places there = there.most_open
