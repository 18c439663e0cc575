use Rattle.std.proofs.Common.{sym, subst}
use Rattle.roster_search_regions.specs.Regions.{HasNone, IsNarrowed}
use Rattle.roster_search_fixing.specs.Propagation.{Anything}
use Rattle.roster_search_fixing.proofs.Narrowing.{narrowed_by_more, narrowed_then}
use Rattle.roster_search_fixing.proofs.propagate.deny_taken.Goals as goal
use Rattle.roster_search_fixing.proofs.propagate.deny_taken.Goals.{then-not-is_empty+in_ok-deny_all, else-not-is_empty}

pub loop-k-preserved : goal.loop-k-preserved
loop-k-preserved c =
    let problem = c.args.problem.now in
    let old = c.args.region.now in
    let mid = c.loop-k.region in
    let before = c.loop-k.invariant in
    elim c.if-not-is_empty.branch [
      | then-not-is_empty+in_ok-deny_all w ↦
          let step = narrowed_by_more problem (HasNone c.loop-k.k c.taken_from-taken.result) Anything mid w.deny_all.new.self w.in_ok-deny_all.ensures.narrowed (λ places there any. c.taken_from-taken.ensures places there) in
          subst (IsNarrowed problem Anything old) (sym w.region-is)
          (narrowed_then problem Anything old mid w.deny_all.new.self before step)
      | else-not-is_empty w ↦ subst (IsNarrowed problem Anything old) (sym w.region-is) before
    ]
