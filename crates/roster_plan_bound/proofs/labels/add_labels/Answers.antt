use Rattle.std.proofs.Common.{sym, subst}
use Rattle.std.specs.Prelude.{All, IfSome}
use Rattle.std.proofs.lemmas.List.Elements.{All-push}
use Rattle.roster_plan_bound.specs.Seeks.{IsSpot}
use Rattle.roster_plan_bound.proofs.labels.add_labels.Goals.{in-Some-2+in_ok-push, in_default-2}
use Rattle.roster_plan_bound.proofs.labels.add_labels.Goals as goal

pub loop-preserved : goal.loop-preserved
loop-preserved c =
    let Spots = IsSpot c.args.prospect.now in
    record {
      judge = c.in_ok-next.ensures.judge;
      labels = elim c.match-branch-2.branch [
        | in-Some-2+in_ok-push w ↦
            let next = subst (λ found. IfSome found Spots) w.in-Some-2.is c.in_ok-next.ensures.next in
            subst (λ labels. All Spots labels.items) (sym w.labels-is)
            (subst (All Spots) (sym w.in_ok-push.ensures.items)
            (All-push Spots c.loop.labels.items w.in-Some-2.next c.loop.invariant.labels next))
        | in_default-2 w ↦ subst (λ labels. All Spots labels.items) (sym w.labels-is) c.loop.invariant.labels
      ];
    }
