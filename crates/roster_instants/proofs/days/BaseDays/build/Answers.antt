use Rattle.std.proofs.Common.{◌∙◌, sym, ap, refl, Ok}
use Rattle.std.proofs.lemmas.Result.{err_from_is_err_and}
use Rattle.roster_model.proofs.WindowLemmas.{table-whole}
use Rattle.roster_instants.proofs.ZoneLemmas.{not_read, not_minutes, not_rising, has_days}
use Rattle.roster_instants.proofs.days.BaseDays.build.Goals as goal

pub returns-in_default-clause-fault : goal.returns-in_default-clause-fault
returns-in_default-clause-fault c = not_read c.args.period c.args.text.now (sym c.in_default.ensures)

pub returns-then-not-has_minutes-clause-fault : goal.returns-then-not-has_minutes-clause-fault
returns-then-not-has_minutes-clause-fault c =
    not_minutes c.args.period c.args.text.now c.in-Some.clocks (sym c.in-Some.ensures)
    (sym c.has_minutes.ensures ∙ c.if-not-has_minutes.true)

pub returns-then-not-rises-clause-fault : goal.returns-then-not-rises-clause-fault
returns-then-not-rises-clause-fault c =
    not_rising c.args.period c.args.text.now c.in-Some.clocks (sym c.in-Some.ensures)
    (sym c.has_minutes.ensures ∙ c.if-not-has_minutes.false)
    (sym c.rises.ensures ∙ c.if-not-rises.true)

pub table-requires : goal.table-requires
table-requires c =
    table-whole c.args.period c.args.text.now c.in-Some.clocks (sym c.in-Some.ensures)
    (sym c.rises.ensures ∙ c.if-not-rises.false)

pub returns-in_err-days-clause-fault : goal.returns-in_err-days-clause-fault
returns-in_err-days-clause-fault c =
    let days =
    has_days c.args.period c.args.text.now c.in-Some.clocks (sym c.in-Some.ensures)
    (sym c.has_minutes.ensures ∙ c.if-not-has_minutes.false)
    (sym c.rises.ensures ∙ c.if-not-rises.false) in
    let p = err_from_is_err_and c.from_residual.result c.from_residual.ensures.1 in
    rw (p.1, p.2, days) refl

pub returns-clause-days : goal.returns-clause-days
returns-clause-days c =
    has_days c.args.period c.args.text.now c.in-Some.clocks (sym c.in-Some.ensures)
    (sym c.has_minutes.ensures ∙ c.if-not-has_minutes.false)
    (sym c.rises.ensures ∙ c.if-not-rises.false)
    ∙ ap (λ d. Ok d) (sym c.in_ok-days.ensures)
