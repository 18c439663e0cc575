use Rattle.std.proofs.Common.{ℕ, List, length, ap, arith}
use Rattle.roster_subtreepool_spans.specs.Spans.{Span}
use Rattle.roster_subtreepool.proofs.StepLemmas.{after-finished}
use Rattle.roster_subtreepool.proofs.pool_state.PoolState.closed.Goals as goal

pub returns-clause-count : goal.returns-clause-count
returns-clause-count g c =
    let inside = c.self.inside in
    let finished =
    after-finished inside.board.widths
    (length inside.board.hands) inside.history.items inside.board c.self.invariant.replay in
    let counted = c.audit.ensures.whole c.requires.all in
    let parts = ap (λ (xs : List (ℕ × Span)). length xs) c.into_parts-widths.ensures.finished in
    omega (arith, finished, c.self.invariant.counted, counted, parts)
