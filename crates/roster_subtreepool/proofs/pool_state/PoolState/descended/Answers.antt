use Rattle.std.proofs.Common.{arith}
use Rattle.roster_subtreepool.specs.declared.event.Event.TheVariants.{Descend}
use Rattle.roster_subtreepool.proofs.StepLemmas.{pool-more}
use Rattle.roster_subtreepool.proofs.pool_state.PoolState.descended.Goals as goal

pub invariant_of-self-2 : goal.invariant_of-self-2
invariant_of-self-2 g c =
    let inside = c.self.inside in
    pool-more inside.board c.descend.new.self inside.history.items c.reserve.new.self.items c.push_reserved.new.self.items (Descend c.args.worker) inside.book.total inside.book.total
    c.self.invariant c.in_ok-kept.ensures.step c.reserve.ensures.items c.push_reserved.ensures.items
    (omega arith)
