use Rattle.std.proofs.Common.{sym, ap, ◌∙◌, subst, arith}
use Rattle.roster_search_regions.specs.Regions.{HasNone, IsIn, IsNarrowed}
use Rattle.roster_search_regions.specs.Trees.{lacks}
use Rattle.roster_search_regions.proofs.RegionLemmas.{HasNone-from_lacks, lacks-from_HasNone, narrowed_by_filter, passes_after}
use Rattle.roster_search_regions.proofs.region.Region.deny_all.Goals as goal

pub returns-clause-narrowed : goal.returns-clause-narrowed
returns-clause-narrowed c =
    let k = c.args.k in
    let taken = c.args.taken.now in
    subst (IsNarrowed c.args.problem.now (HasNone k taken) c.args.self.now) (sym c.in_ok-keep_lacking.ensures)
    (narrowed_by_filter c.args.problem.now (HasNone k taken) c.args.self.now k (λ line. lacks taken line.set) c.requires.region (omega (arith, c.requires.region.covers, c.requires.person))
    (λ places line there none found same. ap (lacks taken) same ∙ lacks-from_HasNone k taken places none))

pub returns-clause-all : goal.returns-clause-all
returns-clause-all c places there =
    let k = c.args.k in
    let taken = c.args.taken.now in
    let left =
    passes_after c.args.problem.now c.args.self.now k (λ line. lacks taken line.set) places
    (omega (arith, c.requires.region.covers, c.requires.person))
    (subst (λ region. IsIn c.args.problem.now region places) c.in_ok-keep_lacking.ensures there) in
    HasNone-from_lacks k taken places (ap (lacks taken) (sym left.2) ∙ left.1)
