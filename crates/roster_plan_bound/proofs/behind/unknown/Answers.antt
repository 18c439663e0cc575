use Rattle.std.proofs.Common.{◌+◌, length, arith, sym, ap, ◌∙◌, subst, inl, inr}
use Rattle.std.proofs.lemmas.Option.{get_or_from_slice_get, slice_get_within}
use Rattle.roster_lines.specs.Listing.{ArePartsLegal}
use Rattle.roster_plan_bound.specs.Behinds.{row_for, IsRowBehind, IsTailBehind}
use Rattle.roster_plan_bound.proofs.BehindLemmas.{begun_none, none_known, tail_end, tail_none}
use Rattle.roster_plan_bound.proofs.behind.unknown.Goals as goal

pub returns : goal.returns
returns c =
    let problem = c.args.valued.now.problem.now in
    let k = c.args.valued.now.person in
    let timeline = c.args.valued.now.timeline.now in
    let values = c.args.valued.now.values.now in
    let parts : ArePartsLegal problem k =
    λ whole part has legal. c.part_of_legal_is_legal.ensures problem k whole part c.is_sound.ensures.ordered c.is_sound.ensures.timed has legal in
    let rows = c.in_ok-rows.rows.items in
    let tails = c.in_ok-tails.tails.items in
    record {
      covers = c.in_ok-rows.ensures.covers ∙ ap length c.pairings.ensures.value;
      rows = λ p row at.
          let none = c.in_ok-rows.ensures.none p row (slice_get_within rows p row at) in
          let same = get_or_from_slice_get rows p row row at in
          λ need. subst (IsRowBehind problem k timeline values p need) (sym (ap (λ r. row_for r need) (sym same) ∙ none need)) (none_known problem k timeline values parts c.requires p need);
      longer = c.in_ok-tails.ensures.longer ∙ ap (λ n. n + 1) (c.len.ensures ∙ timeline.order.ok.0);
      tails = λ from tail at. elim (c.in_ok-tails.ensures.none from tail at) [
        | inl low ↦ subst (IsTailBehind problem k timeline values from) (sym low) (tail_none problem k timeline values parts c.requires from)
        | inr end ↦ subst (λ i. IsTailBehind problem k timeline values i tail) (sym (end.0 ∙ c.len.ensures ∙ timeline.order.ok.0)) (subst (IsTailBehind problem k timeline values (length timeline.order.items)) (sym end.1) (tail_end problem k timeline values parts c.requires))
      ];
      begun = begun_none problem k timeline values parts c.requires;
      within = omega arith;
    }
