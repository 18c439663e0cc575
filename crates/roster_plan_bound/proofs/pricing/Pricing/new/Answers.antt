use Rattle.std.proofs.Common.{◌+◌, length, ap, ◌∙◌, subst, sym, arith}
use Rattle.std.specs.Prelude.{slice_get, IfSome}
use Rattle.std.proofs.lemmas.List.{length_push}
use Rattle.roster_plan_bound.specs.Networks.{IsNetwork}
use Rattle.roster_plan_bound.specs.Timelines.{IsTimeline}
use Rattle.roster_model.proofs.PushLemmas.{each-push}
use Rattle.roster_plan_bound.proofs.pricing.Pricing.new.Goals as goal

pub loop-k-preserved : goal.loop-k-preserved
loop-k-preserved c =
    let inv = c.loop-k.invariant in
    let pushed = c.in_ok-push.ensures.items in
    let here =
    subst (λ k. IsNetwork c.args.problem.now k c.in_ok-network_of.field-0)
    (sym inv.long) c.in_ok-network_of.ensures in
    let pushed_timeline = c.in_ok-push-2.ensures.items in
    let timed_here =
    subst (λ k. IfSome c.in_ok-timeline_of.field-0 (IsTimeline c.args.problem.now k))
    (sym inv.timed) c.in_ok-timeline_of.ensures in
    record {
      long =
          ap length pushed ∙ length_push c.loop-k.networks.items c.in_ok-network_of.field-0
          ∙ ap (λ n. n + 1) inv.long;
      each = λ k network at. each-push (IsNetwork c.args.problem.now) c.loop-k.networks.items c.in_ok-network_of.field-0 inv.each here k network (ap (λ xs. slice_get xs k) (sym pushed) ∙ at);
      timed =
          ap length pushed_timeline ∙ length_push c.loop-k.timelines.items c.in_ok-timeline_of.field-0
          ∙ ap (λ n. n + 1) inv.timed;
      every = λ k found at. each-push (λ j found. IfSome found (IsTimeline c.args.problem.now j)) c.loop-k.timelines.items c.in_ok-timeline_of.field-0 inv.every timed_here k found (ap (λ xs. slice_get xs k) (sym pushed_timeline) ∙ at);
    }

pub invariant_of-result : goal.invariant_of-result
invariant_of-result c =
    let inv = c.loop-k.invariant in
    record {
      judged = c.requires;
      are = record {
        covers = omega (arith, inv.long, c.loop-k-test.false, c.loop-k.auto.k-end, ap length c.persons-k-end.ensures.value);
        each = inv.each;
      };
      timed = record {
        covers = omega (arith, inv.timed, c.loop-k-test.false, c.loop-k.auto.k-end, ap length c.persons-k-end.ensures.value);
        each = inv.every;
      };
    }
