use Rattle.std.proofs.Common.{◌<◌, List, [], Vec, Global, length, map, sym, ap, ◌∙◌, subst, arith}
use Rattle.std.specs.Arc.{arc_value}
use Rattle.std.proofs.lemmas.List.{length-map, length-replicate}
use Rattle.roster_subtreepool.specs.States.{SettledSpan, Played}
use Rattle.roster_combine_workers.specs.Parts.{Task}
use Rattle.roster_combine_workers.specs.Replays.{IsReplaying}
use Rattle.roster_combine_workers.proofs.ReplayLemmas.{replays-opening}
use Rattle.roster_combine_workers.proofs.stage.Stage.open.Goals as goal

pub invariant_of-result : goal.invariant_of-result
invariant_of-result g c =
    let items : Vec SettledSpan Global → List SettledSpan = λ list. list.items in
    let lists = map items c.in_ok-lists.lists.items in
    let task : Task = record { problem = c.args.problem.now; table = c.args.table.now } in
    let opened =
    replays-opening task c.deref.result.now 64 lists
    (arc_value c.in_ok-best.best) c.in_ok-best.ensures.held
    (c.deref.ensures.value ∙ c.in_ok-widths.ensures) c.in_ok-lists.ensures in
    let nothing : List SettledSpan = [] in
    let workers = sym c.requires.workers ∙ c.requires.parts in (
      c.requires.table,
      c.requires.searcher,
      subst (λ (pool : Played). IsReplaying task pool.state lists (arc_value c.in_ok-best.best))
          (sym c.in-Ok.ensures.state) opened,
      c.in-Ok.ensures.share_count ∙ workers,
      sym (length-map c.in_ok-lists.lists.items items) ∙ ap length c.in_ok-lists.ensures
          ∙ length-replicate 64 nothing ∙ workers,
      subst (λ n. 0 < n) workers (omega arith),
    )
