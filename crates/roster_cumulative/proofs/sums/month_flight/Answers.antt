use Rattle.std.proofs.Common.{◌≡◌, ◌+◌, length, take, sym, ap, ◌∙◌, arith}
use Rattle.std.specs.List.{sum_by}
use Rattle.std.proofs.lemmas.Int.{ints}
use Rattle.std.proofs.lemmas.List.{take_all}
use Rattle.std.proofs.lemmas.List.Sums.{sum_by_more}
use Rattle.std.proofs.lemmas.Option.{get_or_from_slice_get, slice_get_within}
use Rattle.roster_model.specs.Sums.{duty_flight, month_flight}
use Rattle.roster_cumulative.proofs.MonthFlight.{month_flight-sum}
use Rattle.roster_cumulative.proofs.sums.month_flight.Goals as goal

pub overflow_add-total : goal.overflow_add-total
overflow_add-total c =
    omega (arith, ints, c.loop-k.invariant.value, c.loop-k.invariant.bound, c.duty_flight-total.ensures.value, c.duty_flight-total.ensures.bound, c.len-k-end.ensures.bound)

pub loop-k-preserved : goal.loop-k-preserved
loop-k-preserved c =
    let list = c.args.list.now in
    let k = c.loop-k.k in
    let flight = duty_flight c.args.days.now in
    let more : sum_by flight (take (k + 1) list) ≡ sum_by flight (take k list) + flight c.duty.result.now =
    sum_by_more flight list k c.duty.result.now (slice_get_within list k _ c.duty.ensures)
    ∙ ap (λ duty. sum_by flight (take k list) + flight duty) (get_or_from_slice_get list k _ _ c.duty.ensures) in
    record {
      value = omega (arith, ints, c.loop-k.invariant.value, c.loop-k.invariant.bound, c.duty_flight-total.ensures.value, c.duty_flight-total.ensures.bound, c.len-k-end.ensures.bound, more);
      bound = omega (arith, c.loop-k.invariant.bound, c.duty_flight-total.ensures.bound, more);
    }

-- all duties
all_of : (c : goal.After-loop-k) → sum_by (duty_flight c.args.days.now) (take c.loop-k.k c.args.list.now) ≡ month_flight c.args.days.now c.args.list.now
all_of c =
    ap (sum_by (duty_flight c.args.days.now)) (take_all c.loop-k.k c.args.list.now (omega arith))
    ∙ sym (month_flight-sum c.args.days.now c.args.list.now)

pub returns-clause-value : goal.returns-clause-value
returns-clause-value c = omega (arith, ints, c.loop-k.invariant.value, all_of c)

pub returns-clause-bound : goal.returns-clause-bound
returns-clause-bound c =
    let all : c.loop-k.k ≡ length c.args.list.now = omega arith in
    let bound = c.loop-k.invariant.bound in
    rw (← all, ← all_of c) bound
