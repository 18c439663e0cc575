use Rattle.std.proofs.Common.{arith, sym}
use Rattle.std.proofs.lemmas.List.FromFn.{map-range_with_len_more}
use Rattle.roster_desk_fair.specs.Fair.{fair_target}
use Rattle.roster_desk_fair.proofs.targets.fair_targets.Goals as goal

pub loop-k-preserved : goal.loop-k-preserved
loop-k-preserved c =
    let more = map-range_with_len_more (fair_target c.args.problem.now) 0 c.loop-k.k c.loop-k.k (omega arith) in
    rw (c.in_ok-push.ensures, c.in_ok-minutes.ensures.found, c.loop-k.invariant) (sym more)
