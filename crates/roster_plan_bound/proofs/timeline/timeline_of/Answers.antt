use Rattle.std.proofs.Common.{List, subst}
use Rattle.std.specs.Prelude.{IfSome}
use Rattle.roster_model.specs.Calendar.{month_start}
use Rattle.roster_model.specs.Problem.{home_of}
use Rattle.roster_lines.specs.Listing.{ArePartsLegal}
use Rattle.roster_plan_bound.specs.declared.days_off.DaysOff.{DaysOff}
use Rattle.roster_plan_bound.specs.declared.loads.Room.{Room}
use Rattle.roster_plan_bound.specs.declared.span.Span.{Span}
use Rattle.roster_plan_bound.specs.Drafts.{AreOffs, AreSpans, IsDraft, IsWhole}
use Rattle.roster_plan_bound.proofs.TimelineLemmas.{drafted}
use Rattle.roster_plan_bound.proofs.timeline.timeline_of.Goals as goal

pub returns : goal.returns
returns c =
    let problem = c.args.problem.now in
    let pairs = c.args.pairs.now in
    let timeline = c.in_ok-timeline.timeline in
    let spans : List Span = c.in-Some.spans.items in
    let sound = c.is_sound.ensures in
    let parts : ArePartsLegal problem c.args.k = λ set part within legal.
    c.part_of_legal_is_legal.ensures problem c.args.k set part sound.ordered sound.timed within legal in
    let spanned : AreSpans problem spans =
    subst (λ found. IfSome found (λ s. AreSpans problem s.items)) c.in-Some.is c.in_ok-spans.ensures in
    let offs : List DaysOff = c.in_ok-offs.offs.items in
    let start : DaysOff = c.in_ok-start.start in
    let are_offs : AreOffs problem c.args.k spans offs =
    subst (λ (s : List Span). AreOffs problem c.args.k s offs) c.deref.ensures.value c.in_ok-offs.ensures in
    let room : Room = c.in_ok-room.room in
    let draft : IsDraft pairs spans offs start (month_start (home_of problem c.args.k).days) room timeline =
    subst (λ n. IsDraft pairs spans offs start n room timeline) c.month_start_of.ensures
    (subst (λ (s : List Span). IsDraft pairs s offs start c.month_start_of.result room timeline) c.deref-2.ensures.value c.in_ok-timeline.ensures) in
    let whole : IsWhole timeline spans =
    subst (IsWhole timeline) c.deref-3.ensures.value (c.is_whole.ensures c.if-not-is_whole.false) in
    drafted problem c.args.k pairs spans timeline sound.ordered sound.timed parts c.requires.pairs spanned offs start are_offs c.in_ok-start.ensures room c.in_ok-room.ensures draft whole
