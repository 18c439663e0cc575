use Rattle.std.proofs.Common.{not, ap, ◌∙◌}
use Rattle.std.proofs.lemmas.Bool.{both_ways}
use Rattle.roster_plan_bound.proofs.OffLemmas.{pair-bits}
use Rattle.roster_plan_bound.proofs.days_off.is_pair.Goals as goal

pub returns-then-is_busy : goal.returns-then-is_busy
returns-then-is_busy c list are off =
    let bits = pair-bits c.args.days.now list c.args.busy c.args.i c.month_days.ensures.table are off in
    absurd (both_ways c.is_busy.result (c.is_busy.ensures ∙ bits.1) c.if-is_busy.true)

pub returns : goal.returns
returns c list are off =
    let bits = pair-bits c.args.days.now list c.args.busy c.args.i c.month_days.ensures.table are off in
    ap not (c.is_busy-2.ensures ∙ bits.2)
