use Rattle.std.proofs.Common.{sym, subst}
use Rattle.roster_search_regions.specs.Regions.{HasNot, IsNarrowed}
use Rattle.roster_search_fixing.specs.Propagation.{Anything}
use Rattle.roster_search_fixing.proofs.Narrowing.{narrowed_by_more, narrowed_then}
use Rattle.roster_search_fixing.proofs.PropagationLemmas.{other_has}
use Rattle.roster_search_fixing.proofs.propagate.deny_others.Goals as goal
use Rattle.roster_search_fixing.proofs.propagate.deny_others.Goals.{then-k-owner+then-has+in_ok-deny, else-k-owner}

pub loop-k-preserved : goal.loop-k-preserved
loop-k-preserved c =
    let problem = c.args.problem.now in
    let old = c.args.region.now in
    let mid = c.loop-k.region in
    let before = c.loop-k.invariant in
    elim c.if-k-owner.branch [
      | then-k-owner+then-has+in_ok-deny w ↦
          let step = narrowed_by_more problem (HasNot c.loop-k.k c.args.p) Anything mid w.deny.new.self w.in_ok-deny.ensures.narrowed (λ places there any. other_has c.args.owner c.loop-k.k c.args.p places w.if-k-owner.true (c.requires.owner places (before.inside places there))) in
          subst (IsNarrowed problem Anything old) (sym w.region-is)
          (narrowed_then problem Anything old mid w.deny.new.self before step)
      | else-k-owner w ↦ subst (IsNarrowed problem Anything old) (sym w.region-is) before
    ]
