use Rattle.std.proofs.Common.{◌||◌, ap, ap₂, arith, sym, ◌∙◌}
use Rattle.std.proofs.lemmas.List.{take_all}
use Rattle.std.proofs.lemmas.List.Folds.{list_any_more}
use Rattle.std.proofs.lemmas.Option.{get_or_from_slice_get}
use Rattle.roster_restrules.specs.Busy.{is_busy, lies_on}
use Rattle.roster_restrules.proofs.DutyDays.{bit_of_either}
use Rattle.roster_restrules.proofs.days_off.busy_days.Goals as goal

pub loop-i-preserved : goal.loop-i-preserved
loop-i-preserved c d inside =
    let days = c.args.days.now in
    let list = c.args.list.now in
    let i = c.loop-i.i in
    let duty = c.duty.result.now in
    let is = get_or_from_slice_get list i duty duty c.duty.ensures in
    bit_of_either c.loop-i.busy c.days_of-busy.result d
    ∙ ap₂ (λ a b. a || b) (c.loop-i.invariant d inside) (c.days_of-busy.ensures d inside ∙ ap (λ x. lies_on days d x) (sym is))
    ∙ sym (list_any_more (lies_on days d) list i duty (omega (arith, c.loop-i-test.true, c.len-i-end.ensures.value)))

pub returns : goal.returns
returns c d inside =
    c.loop-i.invariant d inside
    ∙ ap (λ xs. is_busy c.args.days.now xs d) (take_all c.loop-i.i c.args.list.now (omega (arith, c.loop-i-test.false, c.len-i-end.ensures.value)))
