use Rattle.std.proofs.Common.{◌≡◌, ◌-◌, List, length, Some, sym, ap, ◌∙◌, subst, Bor}
use Rattle.std.specs.Prelude.{◌↔◌, IsTrue, slice_get}
use Rattle.std.proofs.lemmas.Bool.{cond-true, cond-false}
use Rattle.roster_model.specs.records.Duty.{Duty}
use Rattle.roster_problem.specs.Duties.{picked}
use Rattle.roster_problem.proofs.PositionLists.{length-picked}
use Rattle.roster_plan_bound.specs.Spans.{own_duties, IsSolid}
use Rattle.roster_plan_bound.proofs.span.span_of.Goals.{then-solid, else-solid}
use Rattle.roster_plan_bound.proofs.span.span_of.Goals as goal

pub returns : goal.returns
returns c =
    let problem = c.args.problem.now in
    let positions = c.duties_of-positions.result.now in
    let are = c.duties_of-positions.ensures.positions in
    let own = own_duties problem c.args.p in
    let same : picked c.duties-duties.result.now positions ≡ own =
    ap (λ (ds : List Duty). picked ds positions) c.duties-duties.ensures.value ∙ are.elements in
    let long : length positions ≡ length own =
    sym (length-picked problem.duties positions are.within) ∙ ap length are.elements in
    let first : Duty = c.duty_at-first.result.now in
    let last : Duty = c.duty_at-last.result.now in
    record {
      first = first;
      last = last;
      begins = subst (λ (ds : List Duty). slice_get ds 0 ≡ Some first) same c.duty_at-first.ensures;
      ends = subst (λ n. slice_get own (n - 1) ≡ Some last) long
          (subst (λ (ds : List Duty). slice_get ds (length positions - 1) ≡ Some last) same c.duty_at-last.ensures);
      report = c.report_of.ensures;
      release = c.release_of.ensures.value;
      solid = subst (λ (ds : List Duty). IsTrue c.is_solid-solid.result ↔ IsSolid ds) same c.is_solid-solid.ensures;
      begin = elim c.if-solid.branch [
        | then-solid w ↦ c.report_of-2.ensures ∙ ap (λ (b : Bor Duty). b.now.report) w.begin-is ∙ sym (cond-true c.is_solid-solid.result first.report last.report w.if-solid.true)
        | else-solid w ↦ c.report_of-2.ensures ∙ ap (λ (b : Bor Duty). b.now.report) w.begin-is ∙ sym (cond-false c.is_solid-solid.result first.report last.report w.if-solid.false)
      ];
      early = c.release_of.ensures.early;
    }
