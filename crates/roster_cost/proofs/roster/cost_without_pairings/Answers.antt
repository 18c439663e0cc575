use Rattle.std.proofs.Common.{◌≡◌, ℕ, ◌+◌, ◌*◌, ◌≤◌, [], length, pos, to_z, of_z, w64, sym, ap, ◌∙◌, arith}
use Rattle.std.proofs.lemmas.Int.{fits_signed_from_abs, ints, to_z-of_z}
use Rattle.std.specs.List.{range_with_len, sum_by}
use Rattle.roster_model.specs.Costs.{distance, missed_target}
use Rattle.roster_model.specs.Problem.{target_of, weight_of}
use Rattle.roster_model.specs.Rules.{duty_list}
use Rattle.roster_model.specs.declared.limits.TheConstants.{MOST_MINUTES, MOST_MONTH_MINUTES, MOST_WEIGHT}
use Rattle.roster_model.proofs.SumLemmas.{sum_by-range_next}
use Rattle.roster_cost.specs.Amounts.{most_missed}
use Rattle.roster_cost.proofs.Extra.{without-pairings}
use Rattle.roster_cost.proofs.roster.cost_without_pairings.Goals as goal

-- the minutes on the lists of persons up to one
bounded : (c : goal.After-missed-cost)
    → c.loop-k.cost + c.missed-cost.result ≤ MOST_WEIGHT * (sum_by (λ k. length (duty_list c.args.problem.now k [])) (range_with_len 0 (c.loop-k.k + 1)) * MOST_MONTH_MINUTES + (c.loop-k.k + 1) * MOST_MINUTES)
bounded c =
    let problem = c.args.problem.now in
    let k = c.loop-k.k in
    let lists : ℕ → ℕ = λ j. length (duty_list problem j []) in
    let flown = c.fixed_flight.ensures.bound [] in
    omega (arith, c.loop-k.invariant.bound, c.missed-cost.ensures.bound, c.fixed_flight.ensures.value, flown, sum_by-range_next lists k)

pub overflow_add-cost : goal.overflow_add-cost
overflow_add-cost c =
    let problem = c.args.problem.now in
    let few = c.one_list_of_each_duty.ensures problem [] (c.loop-k.k + 1) in
    let persons = ap length c.persons-k-end.ensures.value in
    omega (arith, bounded c, few, persons, c.persons-k-end.ensures.sound.duties, c.persons-k-end.ensures.sound.persons, c.loop-k-test.true)

pub loop-k-preserved : goal.loop-k-preserved
loop-k-preserved c =
    let problem = c.args.problem.now in
    let k = c.loop-k.k in
    let cost = c.missed-cost.ensures.value ∙ ap (λ minutes. weight_of problem * distance minutes (target_of problem k)) c.fixed_flight.ensures.value in
    record {
      value =
          omega
          (arith, c.loop-k.invariant.value, cost, sum_by-range_next (λ j. missed_target problem j []) k);
      bound = bounded c;
    }

-- all persons are counted
most : (c : goal.After-loop-k) → c.loop-k.cost ≤ most_missed
most c =
    let problem = c.args.problem.now in
    let few = c.one_list_of_each_duty.ensures problem [] c.loop-k.k in
    let persons = ap length c.persons-k-end.ensures.value in
    omega (arith, c.loop-k.invariant.bound, few, persons, c.persons-k-end.ensures.sound.duties, c.persons-k-end.ensures.sound.persons)

told : (c : goal.After-loop-k) → to_z w64 (of_z w64 (pos c.loop-k.cost)) ≡ pos c.loop-k.cost
told c = let few = most c in to_z-of_z w64 (pos c.loop-k.cost) (fits_signed_from_abs w64 (pos c.loop-k.cost) (omega arith))

pub overflow_cast-result : goal.overflow_cast-result
overflow_cast-result c = let few = most c in fits_signed_from_abs w64 (pos c.loop-k.cost) (omega arith)

pub returns-clause-value : goal.returns-clause-value
returns-clause-value c =
    let problem = c.args.problem.now in
    let missed : ℕ → ℕ = λ k. missed_target problem k [] in
    let all : c.loop-k.k ≡ length problem.persons = omega (arith, ap length c.persons-k-end.ensures.value) in
    told c ∙ ap pos (c.loop-k.invariant.value ∙ ap (λ n. sum_by missed (range_with_len 0 n)) all)
    ∙ sym (without-pairings problem)

pub returns-clause-low : goal.returns-clause-low
returns-clause-low c = omega (arith, ints, told c)

pub returns-clause-high : goal.returns-clause-high
returns-clause-high c = omega (arith, ints, told c, most c)
