use Rattle.std.proofs.Common.{◌≡◌, ◌<◌, List, length, get_or, sym, ap, subst, ◌∙◌, arith}
use Rattle.roster_model.specs.Sums.{duty_flight}
use Rattle.roster_model.specs.records.Duty.{Duty}
use Rattle.roster_cost.proofs.Flights.{picked-next, minutes_back}
use Rattle.roster_cost.proofs.flight.flight_at.Goals as goal

pub loop-position-preserved : goal.loop-position-preserved
loop-position-preserved c =
    let duties = c.args.problem.now.duties in
    let positions = c.args.positions.now in
    let i = c.loop-position.position-index in
    let minutes = duty_flight c.days_of-days.result.now in
    let position = c.from.result in
    let duty = c.index-duties-from.result in
    let here : position ≡ get_or positions i 0 = c.from.ensures in
    let within : position < length duties =
    subst (λ n. n < length duties) (sym here) (c.requires.within i 0 c.loop-position-test.true) in
    let there : duty ≡ get_or duties position duty =
    c.index-duties-from.is
    ∙ ap (λ (ds : List Duty). get_or ds position duty) c.duties-duties.ensures.value in
    let next =
    picked-next minutes duties positions i position duty c.loop-position-test.true here within there in
    let flown =
    minutes_back c.duty_flight.result (minutes duty) c.duty_flight.ensures.value
    (omega (arith, c.duty_flight.ensures.bound)) in
    record {
      so_far = omega (arith, c.loop-position.invariant.so_far, next, flown);
      bound = omega (arith, c.loop-position.invariant.bound, flown, c.duty_flight.ensures.bound);
    }
