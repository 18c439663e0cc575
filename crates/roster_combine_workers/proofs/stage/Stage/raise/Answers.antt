use Rattle.std.proofs.Common.{◌≡◌, List, Vec, Global, map, sym, ap, ◌∙◌, subst}
use Rattle.std.specs.Arc.{arc_value}
use Rattle.roster_model.specs.Rosters.{Key}
use Rattle.roster_model.specs.Settled.{IsHeld}
use Rattle.roster_subtreepool.specs.States.{SettledSpan}
use Rattle.roster_incumbent.specs.Kept.{less_of}
use Rattle.roster_combine_workers.specs.Parts.{Task}
use Rattle.roster_combine_workers.specs.Replays.{IsReplaying, Replay}
use Rattle.roster_combine_workers.proofs.ReplayLemmas.{replays-raise}
use Rattle.roster_combine_workers.proofs.stage.Stage.raise.Goals as goal

abbrev items : Vec SettledSpan Global → List SettledSpan
items list = list.items

pub invariant_of-self : goal.invariant_of-self
invariant_of-self g c =
    let lists = map items c.self.inside.lists.items in
    let task : Task = record { problem = c.self.inside.problem.now; table = c.self.inside.table.now } in
    let state = c.self.inside.pool.state in
    let known = arc_value c.self.inside.best in
    let found : Key = arc_value c.args.found.now in
    let held : IsHeld task.problem found =
    subst (λ (replay : Replay). IsHeld replay.task.problem found) (sym c.self.view_is) c.requires in
    let less : arc_value c.keep_less.new.best ≡ less_of known found =
    c.keep_less.ensures ∙ ap (less_of known) c.in_ok-found.ensures in (
      c.self.invariant.0,
      c.self.invariant.1,
      subst (λ (key : Key). IsReplaying task state lists key) (sym less)
          (replays-raise task state lists known found c.self.invariant.2 held),
      c.self.invariant.3,
      c.self.invariant.4,
      c.self.invariant.5,
    )
