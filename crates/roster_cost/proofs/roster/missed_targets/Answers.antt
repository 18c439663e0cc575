use Rattle.std.proofs.Common.{◌≡◌, ℕ, ◌+◌, ◌*◌, ◌≤◌, List, length, pos, sym, ap, ◌∙◌, arith}
use Rattle.std.specs.List.{range_with_len, sum_by}
use Rattle.roster_model.specs.Costs.{distance, flight_of, missed_target}
use Rattle.roster_model.specs.Places.{set_of}
use Rattle.roster_model.specs.Problem.{target_of, weight_of}
use Rattle.roster_model.specs.Rules.{duty_list}
use Rattle.roster_model.specs.declared.limits.TheConstants.{MOST_MINUTES, MOST_MONTH_MINUTES, MOST_WEIGHT}
use Rattle.roster_model.proofs.CostLemmas.{total-pos}
use Rattle.roster_model.proofs.SetLemmas.{places_of_number}
use Rattle.roster_model.proofs.SumLemmas.{sum_by-range_next}
use Rattle.roster_cost.proofs.roster.missed_targets.Goals as goal

pub set_flight-requires-clause-places : goal.set_flight-requires-clause-places
set_flight-requires-clause-places c =
    rw (c.of_places-set.ensures, ← c.requires) (places_of_number c.loop-k.k c.args.places.now)

-- the minutes on the lists of persons up to one
bounded : (c : goal.After-missed-cost)
    → c.loop-k.cost + c.missed-cost.result ≤ MOST_WEIGHT * (sum_by (λ k. length (duty_list c.args.problem.now k (set_of k c.args.places.now))) (range_with_len 0 (c.loop-k.k + 1)) * MOST_MONTH_MINUTES + (c.loop-k.k + 1) * MOST_MINUTES)
bounded c =
    let problem = c.args.problem.now in
    let k = c.loop-k.k in
    let lists : ℕ → ℕ = λ j. length (duty_list problem j (set_of j c.args.places.now)) in
    let listed = ap (λ (set : List ℕ). length (duty_list problem k set)) c.of_places-set.ensures in
    omega (arith, c.loop-k.invariant.bound, c.missed-cost.ensures.bound, c.set_flight.ensures.bound, listed, sum_by-range_next lists k)

pub overflow_add-cost : goal.overflow_add-cost
overflow_add-cost c =
    let problem = c.args.problem.now in
    let few = c.one_list_of_each_duty.ensures problem c.args.places.now (c.loop-k.k + 1) in
    let persons = ap length c.persons-k-end.ensures.value in
    omega (arith, bounded c, few, persons, c.persons-k-end.ensures.sound.duties, c.persons-k-end.ensures.sound.persons, c.loop-k-test.true)

pub loop-k-preserved : goal.loop-k-preserved
loop-k-preserved c =
    let problem = c.args.problem.now in
    let k = c.loop-k.k in
    let flight = c.set_flight.ensures.value ∙ ap (flight_of problem k) c.of_places-set.ensures in
    let cost =
    c.missed-cost.ensures.value
    ∙ ap (λ minutes. weight_of problem * distance minutes (target_of problem k)) flight in
    record {
      value = omega (arith, c.loop-k.invariant.value, cost, sum_by-range_next (λ j. missed_target problem j (set_of j c.args.places.now)) k);
      bound = bounded c;
    }

pub returns-clause-value : goal.returns-clause-value
returns-clause-value c =
    let problem = c.args.problem.now in
    let missed : ℕ → ℕ = λ k. missed_target problem k (set_of k c.args.places.now) in
    let all : c.loop-k.k ≡ length problem.persons = omega (arith, ap length c.persons-k-end.ensures.value) in
    ap pos (c.loop-k.invariant.value ∙ ap (λ n. sum_by missed (range_with_len 0 n)) all)
    ∙ sym (total-pos missed (range_with_len 0 (length problem.persons)))

pub returns-clause-bound : goal.returns-clause-bound
returns-clause-bound c =
    let problem = c.args.problem.now in
    let few = c.one_list_of_each_duty.ensures problem c.args.places.now c.loop-k.k in
    let persons = ap length c.persons-k-end.ensures.value in
    omega (arith, c.loop-k.invariant.bound, few, persons, c.persons-k-end.ensures.sound.duties, c.persons-k-end.ensures.sound.persons)
