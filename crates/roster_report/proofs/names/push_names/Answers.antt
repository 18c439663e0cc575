use Rattle.std.proofs.Common.{ap, ◌∙◌, sym}
use Rattle.roster_model.specs.records.Pairing.{Pairing}
use Rattle.roster_report.proofs.NamesOf.{named-takes, some-takes, set_of-passes}
use Rattle.roster_report.proofs.names.push_names.Goals as goal
use Rattle.roster_report.proofs.names.push_names.Goals.{then-from-number+in_ok-push_word, else-from-number}

pub loop-p-preserved : goal.loop-p-preserved
loop-p-preserved c =
    let problem = c.args.problem.now in
    let places = c.args.places.now in
    elim c.if-from-number.branch [
      | then-from-number+in_ok-push_word w ↦
          let word =
          w.as_bytes.ensures.value ∙ ap (λ (pairing : Pairing). pairing.id) w.behind-problem.view_is in
          let is = sym c.from.ensures ∙ w.if-from-number.true in
          record {
            so_far = rw (w.out-is, w.in_ok-push_word.ensures) (named-takes problem c.args.number c.loop-p.p places w.pairing.result.now _ _ _ c.loop-p-test.true is w.pairing.ensures word c.loop-p.invariant.so_far);
            none = w.none-is ∙ some-takes c.args.number c.loop-p.p places c.loop-p-test.true is;
          }
      | else-from-number w ↦
          let same =
          set_of-passes c.args.number c.loop-p.p places c.loop-p-test.true
          (λ e. w.if-from-number.false (c.from.ensures ∙ e)) in
          record {
            so_far = rw (w.out-is, same) c.loop-p.invariant.so_far;
            none = rw (w.none-is, same) c.loop-p.invariant.none;
          }
    ]
