use Rattle.std.proofs.Common.{ap, arith}
use Rattle.roster_search_regions.specs.Regions.{size_of}
use Rattle.roster_search_regions.proofs.Undecided.{fewer_left_open}
use Rattle.roster_search_regions.proofs.RegionLemmas.{among_last, narrowed_left_open}
use Rattle.roster_search_regions.proofs.region.Region.leave_open.Goals as goal

pub returns-clause-narrowed : goal.returns-clause-narrowed
returns-clause-narrowed c =
    let members = rw c.unwrap-self-inside.ensures at c.with.ensures.members in
    rw c.self.view_is at (narrowed_left_open c.args.problem.now _ c.args.p c.unwrap-self-inside.result (rw (← c.self.view_is) at c.requires.region) members)

pub returns-clause-all : goal.returns-clause-all
returns-clause-all c places there = there.left_open c.args.p (among_last c.self.inside.left_open c.unwrap-self-inside.result c.args.p (rw c.unwrap-self-inside.ensures at c.with.ensures.members))

pub returns-clause-fewer : goal.returns-clause-fewer
returns-clause-fewer c undecided =
    let members = rw c.unwrap-self-inside.ensures at c.with.ensures.members in
    let last = among_last c.self.inside.left_open c.unwrap-self-inside.result c.args.p members in
    let less = fewer_left_open _ c.args.p c.unwrap-self-inside.result (omega (arith, c.requires.pairing)) members last (rw (← c.self.view_is) at undecided) in
    omega (arith, less, ap size_of c.self.view_is)
