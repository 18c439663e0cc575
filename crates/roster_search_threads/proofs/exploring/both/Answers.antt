use Rattle.std.proofs.Common.{◌++◌, sym, subst}
use Rattle.roster_search_regions.specs.Regions.{IsIn}
use Rattle.roster_search.specs.Open.{IsExplored, IsInSome}
use Rattle.roster_search_threads.proofs.ExploredLemmas.{both_explored}
use Rattle.roster_search_threads.proofs.exploring.both.Goals as goal

pub returns : goal.returns
returns c problem whole mine theirs most here there =
    let Whole = IsIn problem whole in
    let Both = IsInSome problem (mine ++ theirs) in
    subst (λ best. IsExplored problem Whole Both most best c.append.new.self.items) (sym c.cheaper-best.ensures)
    (both_explored problem Whole most mine theirs c.args.here.best c.args.there.best c.args.here.left.items c.args.there.left.items c.append.new.self.items c.in_ok-append.ensures.items here there)
