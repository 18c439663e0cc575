use Rattle.std.proofs.Common.{◌∙◌}
use Rattle.std.proofs.lemmas.Result.{IfOk-weaker}
use Rattle.roster_report.proofs.PeriodText.{period_text-written}
use Rattle.roster_report.proofs.lines.period_text.Goals as goal

pub returns : goal.returns
returns c =
    let year = rw c.year-year.ensures.value at c.year-year.type_inv in
    let month = rw c.month-month.ensures.value at c.month-month.type_inv in
    IfOk-weaker c.format.result _ _ (λ s h. h ∙ rw (c.year-year.ensures.value, c.month-month.ensures.value) (period_text-written c.args.period year month)) c.format.ensures.ok
