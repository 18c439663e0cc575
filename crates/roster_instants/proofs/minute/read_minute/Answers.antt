use Rattle.std.proofs.Common.{arith, ◌∙◌, ◌≡◌, sym, ap, Some, codes, refl, ◌+◌, ◌*◌}
use Rattle.std.specs.Int.{is_in_range}
use Rattle.roster_instants.proofs.TextLemmas.{digits_at}
use Rattle.roster_instants.proofs.CalendarLemmas.{instant-unshaped, instant-no_year, instant-no_date, instant-no_hour, instant-no_minute, instant-read}
use Rattle.roster_model.specs.declared.limits.TheConstants.{FIRST_YEAR, LAST_YEAR}
use Rattle.roster_instants.proofs.minute.read_minute.Goals as goal
use Rattle.roster_instants.proofs.minute.read_minute.Goals.{then-not-is_in_range-via-then-not-is_in_range, then-not-is_in_range-via-else-not-is_in_range+then-hour-gt23, then-not-is_in_range-via-else-not-is_in_range+else-hour-gt23+then-minute-gt59}

pub returns-then-not-has_shape : goal.returns-then-not-has_shape
returns-then-not-has_shape c =
    instant-unshaped c.args.text.now (sym c.has_shape.ensures.value ∙ c.if-not-has_shape.true)

pub number_at-year-requires-clause-digits : goal.number_at-year-requires-clause-digits
number_at-year-requires-clause-digits c =
    digits_at (codes "0000-00-00T00:00Z") c.args.text.now 0 4 refl
    (sym c.has_shape.ensures.value ∙ c.if-not-has_shape.false)

pub number_at-hour-requires-clause-digits : goal.number_at-hour-requires-clause-digits
number_at-hour-requires-clause-digits c =
    digits_at (codes "0000-00-00T00:00Z") c.args.text.now 11 13 refl
    (sym c.has_shape.ensures.value ∙ c.if-not-has_shape.false)

pub number_at-minute-requires-clause-digits : goal.number_at-minute-requires-clause-digits
number_at-minute-requires-clause-digits c =
    digits_at (codes "0000-00-00T00:00Z") c.args.text.now 14 16 refl
    (sym c.has_shape.ensures.value ∙ c.if-not-has_shape.false)

pub number_at-requires-clause-digits : goal.number_at-requires-clause-digits
number_at-requires-clause-digits c =
    digits_at (codes "0000-00-00T00:00Z") c.args.text.now 5 7 refl
    (sym c.has_shape.ensures.value ∙ c.if-not-has_shape.false)

pub number_at-requires-2-clause-digits : goal.number_at-requires-2-clause-digits
number_at-requires-2-clause-digits c =
    digits_at (codes "0000-00-00T00:00Z") c.args.text.now 8 10 refl
    (sym c.has_shape.ensures.value ∙ c.if-not-has_shape.false)

pub returns-then-not-is_in_range : goal.returns-then-not-is_in_range
returns-then-not-is_in_range c =
    elim c.then-not-is_in_range.branch [
      | then-not-is_in_range-via-then-not-is_in_range w ↦
          instant-no_year c.args.text.now (ap (λ n. is_in_range FIRST_YEAR LAST_YEAR n) (sym c.number_at-year.ensures.value) ∙ sym c.is_in_range.ensures ∙ w.if-not-is_in_range.true)
      | then-not-is_in_range-via-else-not-is_in_range+then-hour-gt23 w ↦
          instant-no_hour c.args.text.now (rw (← c.number_at-hour.ensures.value) w.if-hour-gt23.true)
      | then-not-is_in_range-via-else-not-is_in_range+else-hour-gt23+then-minute-gt59 w ↦
          instant-no_minute c.args.text.now (rw (← c.number_at-minute.ensures.value) w.if-minute-gt59.true)
    ]

pub returns-in_err-day : goal.returns-in_err-day
returns-in_err-day c =
    c.from_residual.ensures
    ∙ instant-no_date c.args.text.now
    (rw (← c.number_at-year.ensures.value, ← c.number_at.ensures.value, ← c.number_at-2.ensures.value) c.in_err-day.ensures)

pub returns : goal.returns
returns c =
    let date = c.in_ok-day.ensures in
    let year = rw (c.number_at-year.ensures.value) at c.is_in_range.ensures in
    let sum : c.on_day.result
    ≡ c.in_ok-day.day * 1440 + (c.number_at-hour.result * 60 + c.number_at-minute.result) =
    rw (c.on_day.ensures, c.from.ensures) in
    ap (λ n. Some n) sum
    ∙ instant-read c.args.text.now c.in_ok-day.day c.number_at-hour.result c.number_at-minute.result
    (sym c.has_shape.ensures.value ∙ c.if-not-has_shape.false)
    (sym year ∙ c.if-not-is_in_range.false)
    (rw (c.number_at-year.ensures.value, c.number_at.ensures.value, c.number_at-2.ensures.value) at date.0)
    (rw (c.number_at-year.ensures.value, c.number_at.ensures.value, c.number_at-2.ensures.value) at date.1)
    c.number_at-hour.ensures.value (omega arith) c.number_at-minute.ensures.value (omega arith)
