use Rattle.std.proofs.Common.{◌≡◌, [], sym, subst}
use Rattle.roster_combine_workers.specs.Replays.{IsIdle, Replay}
use Rattle.roster_combine_workers.proofs.ReplayLemmas.{at_rest}
use Rattle.roster_combine_workers.proofs.stage.Stage.end.Goals as goal

pub returns-in-Err-clause-once : goal.returns-in-Err-clause-once
returns-in-Err-clause-once g c =
    let idle = subst (λ (replay : Replay). IsIdle replay.state) (sym c.self.view_is) c.requires.idle in
    let none = subst (λ (replay : Replay). replay.state.pending ≡ []) (sym c.self.view_is) c.requires.none in
    let no = c.in-Err.ensures.rest.1 (at_rest c.self.inside.pool.state idle none) in
    absurd (cc)
