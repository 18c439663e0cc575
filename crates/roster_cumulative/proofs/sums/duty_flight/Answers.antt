use Rattle.std.proofs.Common.{◌≡◌, ◌+◌, ◌≤◌, pos, w64, sym, ap, ◌∙◌, arith}
use Rattle.std.proofs.lemmas.Int.{to_z_pos}
use Rattle.roster_model.specs.Calendar.{month_end}
use Rattle.roster_model.specs.Sums.{duty_flight, flight_between}
use Rattle.roster_model.specs.declared.limits.TheConstants.{DAYS_BEFORE, MOST_MONTH_MINUTES}
use Rattle.roster_cumulative.proofs.Divided.{duty_flight-between}
use Rattle.roster_model.proofs.WindowLemmas.{mids-in_order}
use Rattle.roster_cumulative.proofs.sums.duty_flight.Goals as goal

pub flight_between-requires : goal.flight_between-requires
flight_between-requires c =
    let days = c.args.days.now in
    let long = c.month_end.ensures.table.eight in
    omega (arith, c.month_start.ensures, c.month_end.ensures.value, mids-in_order days c.month_end.ensures.table DAYS_BEFORE (DAYS_BEFORE + days.month_days) (omega arith) (omega arith))

is_flight : (c : goal.After-flight_between)
    → duty_flight c.args.days.now c.args.duty.now ≡ c.flight_between.result
is_flight c =
    let days = c.args.days.now in
    duty_flight-between days c.args.duty.now c.month_end.ensures.table
    ∙ ap (λ at. flight_between c.args.duty.now at (month_end days)) (sym c.month_start.ensures)
    ∙ ap (λ at. flight_between c.args.duty.now c.month_start.result at) (sym c.month_end.ensures.value)
    ∙ sym c.flight_between.ensures.value

-- it fits, since the month is short
is_short : (c : goal.After-flight_between) → c.flight_between.result ≤ MOST_MONTH_MINUTES
is_short c = omega (arith, c.month_start.ensures, c.month_end.ensures.value, c.month_end.ensures.table.short, c.flight_between.ensures.bound)

pub returns-clause-value : goal.returns-clause-value
returns-clause-value c =
    to_z_pos w64 c.flight_between.result (omega (arith, is_short c)) ∙ ap pos (sym (is_flight c))

pub returns-clause-bound : goal.returns-clause-bound
returns-clause-bound c = omega (arith, is_flight c, is_short c)
