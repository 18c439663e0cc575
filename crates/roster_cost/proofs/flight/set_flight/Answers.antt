use Rattle.std.proofs.Common.{◌≡◌, ◌+◌, ◌<◌, length, ap, ◌∙◌, arith}
use Rattle.std.specs.List.{sum_by}
use Rattle.std.proofs.lemmas.List.Sums.{sum_by-cons}
use Rattle.roster_model.specs.Costs.{flight_of}
use Rattle.roster_model.specs.Problem.{home_of}
use Rattle.roster_model.proofs.SetLemmas.{All-is_among}
use Rattle.roster_values.specs.Set.{places_from}
use Rattle.roster_cost.specs.Amounts.{minutes_of_pairing}
use Rattle.roster_cost.proofs.Flights.{set-parts}
use Rattle.roster_cost.proofs.flight.set_flight.Goals as goal

pub pairing_flight-minutes-requires-clause-pairing : goal.pairing_flight-minutes-requires-clause-pairing
pairing_flight-minutes-requires-clause-pairing c =
    All-is_among (λ p. p < length c.args.problem.now.pairings) c.args.set.now c.in-Some.p c.requires.places c.in-Some.ensures.place.2

pub overflow_add-minutes : goal.overflow_add-minutes
overflow_add-minutes c =
    let problem = c.args.problem.now in
    let k = c.args.k in
    let set = c.args.set.now in
    let minutes = minutes_of_pairing problem k in
    let parts = c.flight_of_set.ensures problem (home_of problem k).days k set c.in-Some.ensures.ascending in
    let whole = set-parts problem k set c.fixed_flight-minutes.result parts c.fixed_flight-minutes.ensures.value c.in-Some.ensures.whole in
    let next =
    ap (sum_by minutes) c.in-Some.ensures.rest
    ∙ sum_by-cons minutes c.in-Some.p (places_from (c.in-Some.p + 1) set) in
    omega (arith, c.loop-p.invariant, next, whole, c.fixed_flight-minutes.ensures.most set, c.pairing_flight-minutes.ensures)

-- all pairings are counted
counted : (c : goal.In_default) → c.loop-p.minutes ≡ flight_of c.args.problem.now c.args.k c.args.set.now
counted c =
    let problem = c.args.problem.now in
    let k = c.args.k in
    let set = c.args.set.now in
    let parts =
    c.flight_of_set.ensures problem (home_of problem k).days k set c.in_default.ensures.ascending in
    let whole = set-parts problem k set c.fixed_flight-minutes.result parts c.fixed_flight-minutes.ensures.value c.in_default.ensures.whole in
    let none = ap (sum_by (minutes_of_pairing problem k)) c.in_default.ensures.rest in
    omega (arith, c.loop-p.invariant, whole, none)

pub returns-clause-value : goal.returns-clause-value
returns-clause-value c = counted c

pub returns-clause-bound : goal.returns-clause-bound
returns-clause-bound c = omega (arith, counted c, c.fixed_flight-minutes.ensures.bound c.args.set.now)

pub returns-clause-most : goal.returns-clause-most
returns-clause-most c = omega (arith, counted c, c.fixed_flight-minutes.ensures.most c.args.set.now)
