use Rattle.std.proofs.Common.{◌≡◌, ◌<◌, length, get_or, true, false, refl, sym, ◌∙◌}
use Rattle.roster_model.specs.records.Duty.{is_held_by_pairing}
use Rattle.roster_book.proofs.LastDuty.{last_more}
use Rattle.roster_book.proofs.draft.Draft.last_duty.Goals.{then-is_of_pairing, else-is_of_pairing}
use Rattle.roster_book.proofs.draft.Draft.last_duty.Goals as goal

pub loop-duty-preserved : goal.loop-duty-preserved
loop-duty-preserved c =
    let within : c.loop-duty.duty-index < length c.args.self.now.duties =
    rw c.as_slice-duty-items.ensures at c.loop-duty-test.true in
    let more =
    last_more c.args.place c.args.self.now.duties c.loop-duty.duty-index c.duty-item.result within in
    let item : get_or c.args.self.now.duties c.loop-duty.duty-index c.duty-item.result ≡ c.duty-item.result =
    sym (rw c.as_slice-duty-items.ensures at c.duty-item.is) in
    elim c.if-is_of_pairing.branch [
      | then-is_of_pairing w ↦
          let held : is_held_by_pairing c.args.place c.duty-item.result.holder ≡ true =
          sym c.is_of_pairing.ensures ∙ w.if-is_of_pairing.true in
          rw (more, item, w.last-is, held) refl
      | else-is_of_pairing w ↦
          let other : is_held_by_pairing c.args.place c.duty-item.result.holder ≡ false =
          sym c.is_of_pairing.ensures ∙ w.if-is_of_pairing.false in
          rw (more, item, w.last-is, other) c.loop-duty.invariant
    ]
