use Rattle.std.proofs.Common.{◌<◌, ◌&&◌, ℕ, [], length, get_or, sym, subst, ap, ◌∙◌}
use Rattle.roster_model.specs.Rules.{is_among}
use Rattle.roster_plan_bound.proofs.SeekLemmas.{index-any, next-spot}
use Rattle.roster_plan_bound.proofs.seek.spot_with.Goals as goal

pub returns : goal.returns
returns c =
    let o = c.args.prospect.now in
    let q : ℕ = c.args.q in
    let spot = c.args.spot.now in
    let timed = c.timeline-timeline.ensures.is in
    let inside : q < length o.timeline.later.items =
    subst (λ n. q < n) (sym timed.covers.later) (c.requires.spot.may q c.requires.may) in
    let later = index-any o.timeline.later.items q c.index.result.now [] (c.index.ensures ∙ ap (λ t. get_or t.later.items q c.index.result.now) c.timeline-timeline.ensures.value) inside in
    next-spot o timed spot q _ c.put.new.self c.and.result c.requires.spot c.requires.room c.requires.may
    c.requires.end c.put.ensures.members
    (λ p. c.and.ensures p ∙ ap (λ row. is_among spot.may p && is_among row p) later)
