use Rattle.std.proofs.Common.{◌≡◌, ◌<◌, ◌++◌, ◌∷◌, List, [], Vec, Global, length, map, sym, ap, ap₂, ◌∙◌, subst, arith, Some}
use Rattle.std.specs.Prelude.{slice_index_or, slice_set}
use Rattle.std.specs.Arc.{arc_value}
use Rattle.std.proofs.lemmas.List.{get_or-map, get_or-set_same, length-map, length-set, map-set, set-set}
use Rattle.std.proofs.Math.Seq.{map-set_same}
use Rattle.roster_model.specs.Rosters.{Key}
use Rattle.roster_subtreepool_spans.specs.Spans.{Span}
use Rattle.roster_subtreepool.specs.States.{SettledSpan, Played, held}
use Rattle.roster_subtreepool.proofs.TimesLemmas.{held_within}
use Rattle.roster_combine_workers.specs.Parts.{IsSettled, Task}
use Rattle.roster_combine_workers.specs.Replays.{IsReplaying, Replay}
use Rattle.roster_combine_workers.proofs.ReplayLemmas.{never-ok, replays-finish, told-own}
use Rattle.roster_combine_workers.proofs.stage.Stage.finish.Goals as goal

abbrev items : Vec SettledSpan Global → List SettledSpan
items list = list.items

-- room in a list changes none
pub invariant_of-self : goal.invariant_of-self
invariant_of-self g c =
    let lists = c.self.inside.lists.items in
    let worker = c.args.worker in
    let task : Task = record { problem = c.self.inside.problem.now; table = c.self.inside.table.now } in
    let kept = map-set_same items lists worker c.room_for.new.list c.index_mut.result.now (c.room_for.ensures.same ∙ ap items c.index_mut.ensures.value) in (
      c.self.invariant.0,
      c.self.invariant.1,
      subst
          (λ (ls : List (List SettledSpan)). IsReplaying task c.self.inside.pool.state ls (arc_value c.self.inside.best))
          (sym kept) c.self.invariant.2,
      c.self.invariant.3,
      length-set lists worker c.room_for.new.list ∙ c.self.invariant.4,
      c.self.invariant.5,
    )

pub invariant_of-self-in-Err-finish : goal.invariant_of-self-in-Err-finish
invariant_of-self-in-Err-finish g c =
    let lists = c.self.inside.lists.items in
    let worker = c.args.worker in
    let task : Task = record { problem = c.self.inside.problem.now; table = c.self.inside.table.now } in
    let kept = map-set_same items lists worker c.room_for.new.list c.index_mut.result.now (c.room_for.ensures.same ∙ ap items c.index_mut.ensures.value) in (
      c.self.invariant.0,
      c.self.invariant.1,
      subst (λ (pool : Played). IsReplaying task pool.state (map items (slice_set lists worker c.room_for.new.list)) (arc_value c.self.inside.best)) (sym c.in-Err-finish.ensures.same.0)
          (subst (λ (ls : List (List SettledSpan)). IsReplaying task c.self.inside.pool.state ls (arc_value c.self.inside.best)) (sym kept) c.self.invariant.2),
      c.self.invariant.3,
      length-set lists worker c.room_for.new.list ∙ c.self.invariant.4,
      c.self.invariant.5,
    )

-- the part is pushed to the worker's list
pub invariant_of-self-in-Ok : goal.invariant_of-self-in-Ok
invariant_of-self-in-Ok g c =
    let lists = c.self.inside.lists.items in
    let worker = c.args.worker in
    let task : Task = record { problem = c.self.inside.problem.now; table = c.self.inside.table.now } in
    let old = c.self.inside.pool.state in
    let next = c.finish.new.self.state in
    let known = arc_value c.self.inside.best in
    let replaying : IsReplaying task old (map items lists) known = c.self.invariant.2 in
    let span : Span = c.args.done.piece in
    let best : Key = arc_value c.args.done.best in
    let part : SettledSpan = record { span = span; best = best } in
    let room = c.room_for.new.list in
    let pushed = c.push_reserved.new.self in
    let has : held old worker ≡ Some span =
    subst (λ (replay : Replay). held replay.state worker ≡ Some span)
    (sym c.self.view_is) c.requires.held in
    let is_settled : IsSettled task.problem task.table part =
    subst (λ (replay : Replay). IsSettled replay.task.problem replay.task.table part)
    (sym c.self.view_is) c.requires.settled in
    let settled = c.in-Ok.ensures.settled in
    let within : worker < length lists =
    omega (arith, held_within old worker span has, replaying.hands, length-map lists items) in
    let own : room.items ≡ slice_index_or (map items lists) worker [] =
    c.room_for.ensures.same ∙ ap items c.index_mut.ensures.value
    ∙ sym (get_or-map items lists worker c.index_mut.result.now [] within) in
    let before : c.index_mut-in-Ok.result.now ≡ room =
    c.index_mut-in-Ok.ensures.value
    ∙ get_or-set_same lists worker room c.index_mut-in-Ok.result.now within in
    let more : pushed.items ≡ slice_index_or (map items lists) worker [] ++ part ∷ [] =
    c.push_reserved.ensures.items
    ∙ ap₂ (λ (xs : List SettledSpan) (x : SettledSpan). xs ++ x ∷ []) (ap items before ∙ own) (ap₂ (λ (s : Span) (b : Key). record { span = s; best = b }) settled.0 settled.1) in
    let final : map items (slice_set (slice_set lists worker room) worker pushed) ≡ slice_set (map items lists) worker (slice_index_or (map items lists) worker [] ++ part ∷ []) =
    ap (map items) (set-set lists worker room pushed) ∙ map-set items lists worker pushed
    ∙ ap (slice_set (map items lists) worker) more in
    let finished = replays-finish task old next worker part (map items lists) known replaying has c.in-Ok.ensures.adds.state is_settled in (
      c.self.invariant.0,
      c.self.invariant.1,
      subst (λ (ls : List (List SettledSpan)). IsReplaying task next ls known) (sym final) finished,
      c.self.invariant.3,
      length-set (slice_set lists worker room) worker pushed ∙ length-set lists worker room
          ∙ c.self.invariant.4,
      c.self.invariant.5,
    )

-- the span is the one in hand, so nothing but memory is wanting
pub returns-in-Err-finish-clause-step : goal.returns-in-Err-finish-clause-step
returns-in-Err-finish-clause-step g c =
    let has = subst (λ (replay : Replay). held replay.state c.args.worker ≡ Some c.args.done.piece) (sym c.self.view_is) c.requires.held in
    never-ok _ c.refused.result c.refused.ensures.passed
    (c.in-Err-finish.ensures.fault ∙ told-own c.self.inside.pool.state c.args.worker c.args.done.piece has)
