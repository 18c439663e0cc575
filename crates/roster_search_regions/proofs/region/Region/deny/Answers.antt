use Rattle.std.proofs.Common.{◌<◌, not, sym, ap, ◌∙◌, subst, arith}
use Rattle.roster_model.specs.Rules.{is_among}
use Rattle.roster_search_regions.specs.Regions.{lines_of, size_of, HasNot, IsIn, IsNarrowed}
use Rattle.roster_search_regions.proofs.RegionLemmas.{among_from_HasNot, HasNot-from_among, fewer_by_filter, narrowed_by_filter, passes_after}
use Rattle.roster_search_regions.proofs.ListLemmas.{false_from_not, list_all-not}
use Rattle.roster_search_regions.proofs.region.Region.deny.Goals as goal

pub returns-clause-narrowed : goal.returns-clause-narrowed
returns-clause-narrowed c =
    let k = c.args.k in
    let p = c.args.p in
    subst (IsNarrowed c.args.problem.now (HasNot k p) c.args.self.now) (sym c.in_ok-keep_having.ensures)
    (narrowed_by_filter c.args.problem.now (HasNot k p) c.args.self.now k (λ line. not (is_among line.set p)) c.requires.region (omega (arith, c.requires.region.covers, c.requires.person))
    (λ places line there has found same. ap not (ap (λ set. is_among set p) same ∙ among_from_HasNot k p places has)))

pub returns-clause-all : goal.returns-clause-all
returns-clause-all c places there =
    let k = c.args.k in
    let p = c.args.p in
    let left =
    passes_after c.args.problem.now c.args.self.now k (λ line. not (is_among line.set p)) places
    (omega (arith, c.requires.region.covers, c.requires.person))
    (subst (λ region. IsIn c.args.problem.now region places) c.in_ok-keep_having.ensures there) in
    HasNot-from_among k p places
    (ap (λ set. is_among set p) (sym left.2) ∙ false_from_not (is_among left.0.set p) left.1)

pub returns-clause-fewer : goal.returns-clause-fewer
returns-clause-fewer c split =
    subst (λ region. size_of region < size_of c.args.self.now) (sym c.in_ok-keep_having.ensures)
    (fewer_by_filter c.args.self.now c.args.k (λ line. not (is_among line.set c.args.p)) (omega (arith, c.requires.region.covers, c.requires.person)) (list_all-not (λ line. is_among line.set c.args.p) (lines_of c.args.self.now c.args.k) split.some))
