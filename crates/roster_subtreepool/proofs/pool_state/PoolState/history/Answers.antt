use Rattle.std.proofs.Common.{◌≡◌, length, subst}
use Rattle.roster_subtreepool.specs.States.{Played, finishes}
use Rattle.roster_subtreepool.proofs.StepLemmas.{after-finished}
use Rattle.roster_subtreepool.proofs.pool_state.PoolState.history.Goals as goal

pub returns-clause-finishes : goal.returns-clause-finishes
returns-clause-finishes g c =
    let inside = c.self.inside in
    let finished =
    after-finished inside.board.widths
    (length inside.board.hands) inside.history.items inside.board c.self.invariant.replay in
    subst (λ (pool : Played). length pool.state.finished ≡ finishes pool.events) c.self.view_is finished
