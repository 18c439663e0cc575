use Rattle.std.proofs.Common.{◌∙◌, sym, ap, Some, codes, refl}
use Rattle.roster_model.specs.Calendar.{Period}
use Rattle.std.specs.Int.{is_in_range}
use Rattle.roster_instants.proofs.TextLemmas.{digits_at}
use Rattle.roster_instants.proofs.CalendarLemmas.{period-unshaped, period-no_year, period-no_month, period-read, same_period}
use Rattle.roster_model.specs.declared.limits.TheConstants.{FIRST_MONTH_YEAR, LAST_MONTH_YEAR}
use Rattle.roster_instants.proofs.period.Period.read.Goals as goal
use Rattle.roster_instants.proofs.period.Period.read.Goals.{then-not-is_in_range-via-then-not-is_in_range, then-not-is_in_range-via-else-not-is_in_range+then-not-is_in_range-2}

pub returns-then-not-has_shape : goal.returns-then-not-has_shape
returns-then-not-has_shape c =
    period-unshaped c.args.text.now (sym c.has_shape.ensures.value ∙ c.if-not-has_shape.true)

pub number_at-year-requires-clause-digits : goal.number_at-year-requires-clause-digits
number_at-year-requires-clause-digits c =
    digits_at (codes "0000-00") c.args.text.now 0 4 refl
    (sym c.has_shape.ensures.value ∙ c.if-not-has_shape.false)

pub number_at-month-requires-clause-digits : goal.number_at-month-requires-clause-digits
number_at-month-requires-clause-digits c =
    digits_at (codes "0000-00") c.args.text.now 5 7 refl
    (sym c.has_shape.ensures.value ∙ c.if-not-has_shape.false)

pub returns-then-not-is_in_range : goal.returns-then-not-is_in_range
returns-then-not-is_in_range c =
    elim c.then-not-is_in_range.branch [
      | then-not-is_in_range-via-then-not-is_in_range w ↦
          period-no_year c.args.text.now (ap (λ n. is_in_range FIRST_MONTH_YEAR LAST_MONTH_YEAR n) (sym c.number_at-year.ensures.value) ∙ sym c.is_in_range.ensures ∙ w.if-not-is_in_range.true)
      | then-not-is_in_range-via-else-not-is_in_range+then-not-is_in_range-2 w ↦
          period-no_month c.args.text.now (ap (λ n. is_in_range 1 12 n) (sym c.number_at-month.ensures.value) ∙ sym w.is_in_range-else-not-is_in_range.ensures ∙ w.if-not-is_in_range-2.true)
    ]

pub returns : goal.returns
returns c =
    let year =
    ap (λ n. is_in_range FIRST_MONTH_YEAR LAST_MONTH_YEAR n) (sym c.number_at-year.ensures.value)
    ∙ sym c.is_in_range.ensures ∙ c.if-not-is_in_range.false in
    let month =
    ap (λ n. is_in_range 1 12 n) (sym c.number_at-month.ensures.value)
    ∙ sym c.is_in_range-else-not-is_in_range.ensures ∙ c.if-not-is_in_range-2.false in
    ap (λ (d : Period). Some d)
    (same_period _ _ _ _ year month c.number_at-year.ensures.value c.number_at-month.ensures.value)
    ∙ period-read c.args.text.now (sym c.has_shape.ensures.value ∙ c.if-not-has_shape.false) year month
