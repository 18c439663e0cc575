use Rattle.std.proofs.Common.{◌≡◌, ◌<◌, length, get_or, sym, subst, ap, ◌∙◌, arith, rules, w64, FitsSigned, to_z, of_z}
use Rattle.std.proofs.lemmas.Int.{ints, to_z-of_z}
use Rattle.roster_plan_bound.specs.Prospects.{IsAhead}
use Rattle.roster_plan_bound.proofs.SeekLemmas.{ahead-of, in-time, index-any, legal-with, parts-of, value-within}
use Rattle.roster_plan_bound.proofs.seek.onward.Goals as goal

pub returns-then-end-index-clause-next : goal.returns-then-end-index-clause-next
returns-then-end-index-clause-next c before rest start =
    let o = c.args.prospect.now in
    let timed = c.timeline.ensures.is in
    let parts =
    parts-of c.part_of_legal_is_legal.ensures c.problem.result.now o.problem o.person c.problem.ensures
    c.is_sound.ensures.ordered c.is_sound.ensures.timed in
    let low = in-time o timed parts c.args.spot.now c.args.q c.end_with-end.result c.end_with-end.ensures before rest start in
    let inside : c.args.q < length o.timeline.lows.items =
    subst (λ n. c.args.q < n) (sym timed.covers.lows) (c.requires.spot.may c.args.q c.requires.may) in
    let found = index-any o.timeline.lows.items c.args.q c.index.result.now 0 (c.index.ensures ∙ ap (λ t. get_or t.lows.items c.args.q c.index.result.now) c.timeline.ensures.value) inside in
    let early = c.if-end-index.true in
    absurd (omega (arith, low, found, early))

pub returns-then-ahead-least-clause-next : goal.returns-then-ahead-least-clause-next
returns-then-ahead-least-clause-next c =
    let o = c.args.prospect.now in
    let end = c.end_with-end.result in
    let within = value-within o c.args.spot.now c.args.q end c.requires.spot c.requires.room c.end_with-end.ensures in
    let low = within.0 in
    let high = within.1 in
    let fits : FitsSigned w64 end.value = search rules in
    let told : to_z w64 (of_z w64 end.value) ≡ end.value = to_z-of_z w64 end.value fits in
    let least_told : to_z w64 (of_z w64 c.args.least) ≡ c.args.least = to_z-of_z w64 c.args.least c.ranges.least in
    let ahead_fits : FitsSigned w64 c.ahead.result = search rules in
    let ahead_told : to_z w64 (of_z w64 c.ahead.result) ≡ c.ahead.result = to_z-of_z w64 c.ahead.result ahead_fits in
    let more = c.if-ahead-least.true in
    ahead-of o c.timeline.ensures.is c.args.spot.now c.args.q end c.args.least c.ahead.result
    c.end_with-end.ensures
    (subst (λ v. IsAhead o.problem o.person o.timeline o.units v end.flight end.load c.args.q end.class end.need c.ahead.result) told c.ahead.ensures) (omega (arith, ints, least_told, ahead_told, more))

pub returns-then-not-branch-clause-next : goal.returns-then-not-branch-clause-next
returns-then-not-branch-clause-next c before rest start =
    let o = c.args.prospect.now in
    let parts =
    parts-of c.part_of_legal_is_legal.ensures c.problem.result.now o.problem o.person c.problem.ensures
    c.is_sound.ensures.ordered c.is_sound.ensures.timed in
    let legal = legal-with o c.timeline.ensures.is parts c.args.spot.now c.args.q c.spot_with-next.result c.spot_with-next.ensures before rest start in
    absurd (c.in_ok-may_be_legal.ensures.no c.if-not-branch.true legal)
