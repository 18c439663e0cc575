use Rattle.std.proofs.Common.{◌+◌, arith}
use Rattle.roster_model.proofs.WindowLemmas.{mids-in_order}
use Rattle.roster_model.specs.declared.limits.TheConstants.{DAYS_BEFORE}
use Rattle.roster_plan_bound.proofs.days_off.end_of.Goals as goal

pub returns : goal.returns
returns c later above inside =
    let days = c.args.days.now in
    let table = c.month_days.ensures.table in
    let long = table.eight in
    let order =
    mids-in_order days table (DAYS_BEFORE + (c.args.i + 2)) (DAYS_BEFORE + later + 2) (omega (arith, above))
    (omega (arith, long, inside)) in
    let value = c.day_begin.ensures.value in
    (omega (arith, value, order), c.day_begin.ensures.early)
