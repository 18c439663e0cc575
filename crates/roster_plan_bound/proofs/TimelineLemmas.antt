-- How a timeline is made.
use Rattle.std.proofs.Common.{◌≡◌, ℕ, ◌-◌, ◌<◌, ◌≤◌, true, List, [], ◌∷◌, length, get_or, Some, sym, ap, ◌∙◌, subst, inl, inr, arith}
use Rattle.std.specs.Prelude.{◌↔◌, slice_get}
use Rattle.std.proofs.lemmas.Bool.{cases_eq, cases_lt, false≢true}
use Rattle.std.proofs.lemmas.Option.{slice_get-get_or, slice_get_cases}
use Rattle.roster_model.specs.Calendar.{month_start}
use Rattle.roster_model.specs.Problem.{Problem, home_of}
use Rattle.roster_model.specs.Rules.{duty_list, is_among, DaysOffRule, IsLegal}
use Rattle.roster_problem.specs.Duties.{AreTimed, IsInOrder}
use Rattle.roster_lines.specs.declared.pairs.Pairs.{Pairs}
use Rattle.roster_lines.specs.Listing.{AreFlights, ArePairs, ArePartsLegal}
use Rattle.roster_plan_bound.specs.declared.days_off.DaysOff.{DaysOff}
use Rattle.roster_plan_bound.specs.declared.loads.Room.{Room}
use Rattle.roster_plan_bound.specs.declared.span.Span.{Span}
use Rattle.roster_plan_bound.specs.declared.timeline.Timeline.{Timeline}
use Rattle.roster_plan_bound.specs.DaysOffs.{pairs_by, HasPairsFrom, IsOffFrom, IsSoonest}
use Rattle.roster_plan_bound.specs.Loads.{AreLoads}
use Rattle.roster_plan_bound.specs.Spans.{IsBegun}
use Rattle.roster_plan_bound.specs.Drafts.{AreListed, AreOffs, AreSpans, IsDraft, IsNext, IsWhole}
use Rattle.roster_plan_bound.specs.Timelines.{begin_of, class_of, later_than, low_of, need_behind, need_first, off_of, rank_of, unrested_after, IsOwed, IsTimeline, MayEnd}
use Rattle.roster_plan_bound.proofs.ChainLemmas.{pair_among, single_among}
use Rattle.roster_plan_bound.proofs.SpanLemmas.{begun-ends, begun-next, begun-own, holds, list_timed, on_list}
use Rattle.roster_plan_bound.proofs.OffLemmas.{owed-first, owed-last, owed-next}

module _ (problem : Problem) (k : ℕ) (pairs : Pairs) (spans : List Span) (timeline : Timeline)
    (ordered : IsInOrder problem.duties) (timed : AreTimed problem.duties) (parts : ArePartsLegal problem k)
    (are : ArePairs problem k pairs) (spanned : AreSpans problem spans)
    (offs : List DaysOff) (start : DaysOff) (are_offs : AreOffs problem k spans offs)
    (is_start : IsOffFrom problem k [] 0 start)
    (room : Room) (laden : AreLoads problem k room.loads.items room.spare)
    (draft : IsDraft pairs spans offs start (month_start (home_of problem k).days) room timeline)
    (whole : IsWhole timeline spans) where
  abbrev SpanAt : ℕ → Type 0
  SpanAt p = (span : Span) × (slice_get spans p ≡ Some span)

  span_at : (p : ℕ) → p < length problem.pairings → SpanAt p
  span_at p inside =
      elim ((slice_get_cases spans p).1) [
        | inl there ↦ (there.0, there.2)
        | inr past ↦ absurd (omega (arith, inside, past.0, spanned.covers))
      ]

  -- a pairing of a legal set is legal alone,
  single : (set : List ℕ) (p : ℕ) → IsLegal problem k set → p < length problem.pairings
      → is_among set p ≡ true → is_among pairs.alone p ≡ true
  single set p legal inside has = (are.alone p).1 (inside, parts set (p ∷ []) (single_among set p has) legal)

  known : (set : List ℕ) (p : ℕ) → IsLegal problem k set → p < length problem.pairings
      → is_among set p ≡ true → is_among timeline.alone p ≡ true
  known set p legal inside has = ap (λ s. is_among s p) draft.alone ∙ single set p legal inside has

  -- and two of them are in the row of the earlier one
  in_row : (set : List ℕ) (p q : ℕ) → IsLegal problem k set → q < length problem.pairings → p < q
      → is_among set p ≡ true → is_among set q ≡ true → is_among (get_or pairs.rows.items p []) q ≡ true
  in_row set p q legal inside before has_p has_q =
      let there : p < length pairs.rows.items = omega (arith, inside, before, are.covers) in
      (are.rows p (get_or pairs.rows.items p []) (slice_get-get_or pairs.rows.items p [] there) q).1
      (before, inside, parts set (p ∷ q ∷ []) (pair_among set p q has_p has_q) legal)

  listed : (set : List ℕ) (p q : ℕ) → IsLegal problem k set → p < length problem.pairings
      → q < length problem.pairings → is_among set p ≡ true → is_among set q ≡ true
      → rank_of timeline p < rank_of timeline q → AreListed pairs.rows.items p q
  listed set p q legal in_p in_q has_p has_q later =
      elim (cases_lt p q) [
        | inl before ↦ inl (before, in_row set p q legal in_q before has_p has_q)
        | inr behind ↦
            elim (cases_eq p q) [
              | inl same ↦
                  let equal : rank_of timeline p ≡ rank_of timeline q = ap (rank_of timeline) same in
                  absurd (omega (arith, later, equal))
              | inr other ↦
                  let after : q < p = omega (arith, behind, other) in
                  inr (after, in_row set q p legal in_p after has_q has_p)
            ]
      ]

  follows : (set : List ℕ) (p q : ℕ) → IsLegal problem k set → p < length problem.pairings
      → q < length problem.pairings → is_among set p ≡ true → is_among set q ≡ true
      → rank_of timeline p < rank_of timeline q → is_among (later_than timeline p) q ≡ true
  follows set p q legal in_p in_q has_p has_q later =
      let rows = timeline.later.items in
      let there : p < length rows = omega (arith, in_p, draft.long_later, spanned.covers) in
      (draft.later p (get_or rows p []) (slice_get-get_or rows p [] there)).every q
      (single set q legal in_q has_q) later (listed set p q legal in_p in_q has_p has_q later)

  next_to : (p q : ℕ) → p < length problem.pairings → is_among (unrested_after timeline p) q ≡ true
      → IsNext spans timeline.classes.items p q
  next_to p q in_p has =
      let rows = timeline.unrested.items in
      let there : p < length rows = omega (arith, in_p, draft.long_unrested, spanned.covers) in
      draft.unrested p (get_or rows p []) (slice_get-get_or rows p [] there) q has

  own : (set : List ℕ) (p : ℕ) → IsLegal problem k set → p < length problem.pairings
      → is_among set p ≡ true → IsBegun problem k set p (begin_of timeline (class_of timeline p))
  own set p legal in_p has =
      let span = span_at p in_p in
      let same = (whole.fits p (known set p legal in_p has)).begin span.0 span.1 in
      subst (IsBegun problem k set p) (sym same)
      (begun-own problem k set ordered timed legal p span.0 has (spanned.each p span.0 span.1))

  goes : (set : List ℕ) (p q begin : ℕ) → IsLegal problem k set → p < length problem.pairings
      → q < length problem.pairings → is_among set p ≡ true → is_among set q ≡ true
      → is_among (unrested_after timeline p) q ≡ true → IsBegun problem k set p begin
      → IsBegun problem k set q begin
  goes set p q begin legal in_p in_q has_p has_q unrested begun =
      let next = next_to p q in_p unrested in
      begun-next problem k set ordered timed legal p q begin next.first next.second has_q
      (spanned.each p next.first next.before) (spanned.each q next.second next.after) begun next.solid next.goes

  ends : (set : List ℕ) (q class : ℕ) → IsLegal problem k set → q < length problem.pairings
      → is_among set q ≡ true → class < length timeline.order.items
      → IsBegun problem k set q (begin_of timeline class) → low_of timeline q ≤ class
  ends set q class legal in_q has inside begun =
      let span = span_at q in_q in
      let lows = timeline.lows.items in
      let there : q < length lows = omega (arith, in_q, draft.long_lows, spanned.covers) in
      draft.lows q (get_or lows q 0) span.0 span.1 (slice_get-get_or lows q 0 there) class
      (omega (arith, inside, draft.begins))
      (begun-ends problem k set ordered timed legal q (begin_of timeline class) span.0 has (spanned.each q span.0 span.1) begun)

  -- ---- days off

  off_at : (p : ℕ) → p < length problem.pairings → slice_get offs p ≡ Some (off_of timeline p)
  off_at p inside =
      let there : p < length offs = omega (arith, inside, are_offs.covers, spanned.covers) in
      subst (λ xs. slice_get offs p ≡ Some (get_or xs p timeline.start)) (sym draft.are_offs) (slice_get-get_or offs p timeline.start there)

  -- no pair off is over sooner in a set with the pairing
  soonest : (set : List ℕ) (p : ℕ) → p < length problem.pairings → is_among set p ≡ true
      → IsSoonest (home_of problem k).days (duty_list problem k set) (off_of timeline p)
  soonest set p inside has =
      let span = span_at p inside in
      (are_offs.each p (off_of timeline p) (off_at p inside) span.0 span.1).soonest set (single_among set p has)

  -- from one pairing of a set to another
  owed : (set : List ℕ) (off : DaysOff) (q need : ℕ) → IsLegal problem k set → q < length problem.pairings
      → is_among set q ≡ true → IsSoonest (home_of problem k).days (duty_list problem k set) off
      → HasPairsFrom (home_of problem k).days (duty_list problem k set) off.from need
      → IsOwed problem k timeline set q (need - pairs_by off (off_of timeline q).from)
  owed set off q need legal inside has soon was =
      let span = span_at q inside in
      let is = spanned.each q span.0 span.1 in
      let on = on_list problem k set ordered timed legal q 0 is.first has is.begins in
      let reports = (are_offs.each q (off_of timeline q) (off_at q inside) span.0 span.1).begins ∙ is.report in
      owed-next (home_of problem k).days (duty_list problem k set) off soon (off_of timeline q).from need on.0
      is.first (list_timed problem k set ordered timed legal) on.1 reports was

  first : (set : List ℕ) (q : ℕ) → IsLegal problem k set → q < length problem.pairings → is_among set q ≡ true
      → IsOwed problem k timeline set q (need_first timeline q)
  first set q legal inside has =
      let days = (home_of problem k).days in
      let soon : IsSoonest days (duty_list problem k set) timeline.start =
      subst (IsSoonest days (duty_list problem k set)) (sym draft.is_start) (is_start.soonest set (λ r none. absurd (false≢true none))) in
      let zero : timeline.start.from ≡ 0 = ap (λ (off : DaysOff). off.from) draft.is_start ∙ is_start.begins in
      owed set timeline.start q 2 legal inside has soon
      (owed-first days (duty_list problem k set) timeline.start.from zero (holds problem k set ordered timed legal q has DaysOffRule))

  behind : (set : List ℕ) (p q need : ℕ) → IsLegal problem k set → p < length problem.pairings
      → q < length problem.pairings → is_among set p ≡ true → is_among set q ≡ true
      → IsOwed problem k timeline set p need → IsOwed problem k timeline set q (need_behind timeline p q need)
  behind set p q need legal in_p in_q has_p has_q was =
      owed set (off_of timeline p) q need legal in_q has_q (soonest set p in_p has_p) was

  last : (set : List ℕ) (p need : ℕ) → IsLegal problem k set → p < length problem.pairings
      → is_among set p ≡ true → IsOwed problem k timeline set p need → MayEnd timeline p need
  last set p need legal inside has was =
      owed-last (home_of problem k).days (duty_list problem k set) (off_of timeline p) (soonest set p inside has) need was

  pub drafted : IsTimeline problem k timeline
  drafted = record {
    covers = record {
      ranks = draft.ranks ∙ spanned.covers;
      later = draft.long_later ∙ spanned.covers;
      unrested = draft.long_unrested ∙ spanned.covers;
      classes = draft.classes ∙ spanned.covers;
      lows = draft.long_lows ∙ spanned.covers;
      offs = ap length draft.are_offs ∙ are_offs.covers ∙ spanned.covers;
      begins = draft.begins;
    };
    alone = λ p. subst (λ s. (is_among s p ≡ true) ↔ ((p < length problem.pairings) × IsLegal problem k (p ∷ []))) (sym draft.alone) (are.alone p);
    short = whole.short;
    known = whole.known;
    order = λ p has. (whole.fits p has).order;
    later = follows;
    class = λ p has. subst (λ n. class_of timeline p < n) draft.begins (whole.fits p has).class;
    own = own;
    same = goes;
    rising = λ p q in_p has. (next_to p q in_p has).rising;
    in_time = ends;
    need_first = first;
    need_behind = behind;
    may_end = last;
    flights = subst (AreFlights problem k) (sym draft.flights) are.flights;
    few = whole.few;
    loads = subst (λ n. AreLoads problem k timeline.loads.items n) (sym draft.spare_load)
        (subst (λ xs. AreLoads problem k xs room.spare) (sym draft.loads) laden);
  }
