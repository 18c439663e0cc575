use Rattle.std.proofs.Common.{◌≡◌, ◌+◌, length, get_or, refl, sym, ap, arith}
use Rattle.std.proofs.lemmas.Option.{get_or_from_slice_get, slice_get_read, slice_get_within}
use Rattle.roster_plan_bound.specs.Timelines.{rank_of}
use Rattle.roster_plan_bound.proofs.leading.rank_behind.Goals as goal

pub overflow_add-result : goal.overflow_add-result
overflow_add-result c =
    let timeline = c.args.valued.now.timeline.now in
    let is = c.requires.valued.is_timeline in
    let ranks = timeline.ranks.items in
    let place = ((is.alone c.args.p).0 c.requires.place).0 in
    let rank : get_or ranks c.args.p 0 ≡ c.index.result.now =
    get_or_from_slice_get ranks c.args.p c.index.result.now 0
    (slice_get_read ranks (length ranks) c.args.p c.index.result.now refl (omega (arith, is.covers.ranks, place)) c.index.ensures) in
    let inside = slice_get_within timeline.order.items (rank_of timeline c.args.p) c.args.p (is.order c.args.p c.requires.place) in
    let short = is.short in
    omega (arith, rank, inside, short)

pub returns : goal.returns
returns c =
    let timeline = c.args.valued.now.timeline.now in
    let is = c.requires.valued.is_timeline in
    let ranks = timeline.ranks.items in
    let place = ((is.alone c.args.p).0 c.requires.place).0 in
    let rank : get_or ranks c.args.p 0 ≡ c.index.result.now =
    get_or_from_slice_get ranks c.args.p c.index.result.now 0
    (slice_get_read ranks (length ranks) c.args.p c.index.result.now refl (omega (arith, is.covers.ranks, place)) c.index.ensures) in
    ap (λ n. n + 1) (sym rank)
