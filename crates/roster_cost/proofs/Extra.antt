-- How far a line's cost is from that of no pairings.
use Rattle.std.proofs.Common.{◌≡◌, ℕ, ◌+◌, ◌*◌, ◌≤◌, List, [], length, ℤ, pos, ◌+ℤ◌, ◌-ℤ◌, sym, ap, ◌∙◌, subst, inl, inr, arith}
use Rattle.std.specs.Prelude.{filter}
use Rattle.std.specs.List.{range_with_len, sum_by}
use Rattle.std.proofs.lemmas.Int.{ints}
use Rattle.std.proofs.Math.Nat.{mul-le-mul_left, mul-le-mul_right}
use Rattle.roster_model.specs.declared.limits.TheConstants.{MOST_WEIGHT}
use Rattle.roster_model.specs.declared.profile.TheConstants.{MOST_FLIGHT_IN_A_YEAR}
use Rattle.roster_model.specs.Costs.{distance, flight_of, line_cost, missed_target, total}
use Rattle.roster_model.specs.Lines.{IsLine}
use Rattle.roster_model.specs.Problem.{Problem, home_of, target_of, units_of, weight_of}
use Rattle.roster_model.specs.Rules.{LimitRule, FlightYear}
use Rattle.roster_model.specs.Sums.{month_flight}
use Rattle.roster_model.proofs.CostLemmas.{total-nil, total-pos}
use Rattle.roster_problem.specs.Duties.{is_of_person}
use Rattle.roster_problem.specs.Sound.{IsSound}
use Rattle.roster_cost.specs.Amounts.{IsWithin, cost_without_pairings, minutes_of_pairing, most_extra, most_units}
use Rattle.roster_cost.proofs.Fits.{units-of_set}
use Rattle.roster_cost.proofs.Flights.{fixed-listed}
use Rattle.roster_cost.proofs.Shares.{same_total}

-- ---- no pairings

-- what a person costs with none
pub line_cost-none : (problem : Problem) (k : ℕ) → line_cost problem k [] ≡ pos (missed_target problem k [])
line_cost-none problem k = omega (arith, ints, total-nil (units_of problem k))

-- and all persons
pub without-pairings : (problem : Problem) → cost_without_pairings problem ≡ pos (sum_by (λ k. missed_target problem k []) (range_with_len 0 (length problem.persons)))
without-pairings problem =
    let missed : ℕ → ℕ = λ k. missed_target problem k [] in
    same_total (λ k. line_cost problem k []) (λ k. pos (missed k)) (line_cost-none problem)
    (range_with_len 0 (length problem.persons))
    ∙ total-pos missed (range_with_len 0 (length problem.persons))

-- ---- a line

-- two times of flight up to some time miss a target by as much, but for that time
distance-near : (a b target most : ℕ) → a ≤ most → b ≤ most → distance a target ≤ distance b target + most
distance-near a b target most within also = omega arith

-- numbers that are near are so where they are weighed
weighed-near : (weight heaviest a b most : ℕ) → weight ≤ heaviest → a ≤ b + most
    → weight * a ≤ weight * b + heaviest * most
weighed-near weight heaviest a b most light near =
    let weighed : weight * a ≤ weight * (b + most) = mul-le-mul_left weight near in
    let heavy : weight * most ≤ heaviest * most = mul-le-mul_right most light in
    omega (arith, weighed, heavy)

missed-near : (weight a b target most : ℕ) → weight ≤ MOST_WEIGHT → a ≤ most → b ≤ most
    → weight * distance a target ≤ weight * distance b target + MOST_WEIGHT * most
missed-near weight a b target most light within also =
    weighed-near weight MOST_WEIGHT (distance a target) (distance b target) most light
    (distance-near a b target most within also)

-- the fixed duties' flight is part of that of a set
fixed_in_set : (problem : Problem) (k : ℕ) (set : List ℕ)
    → flight_of problem k set ≡ month_flight (home_of problem k).days (filter (is_of_person k) problem.duties) + sum_by (minutes_of_pairing problem k) set
    → flight_of problem k [] ≤ flight_of problem k set
fixed_in_set problem k set parts =
    omega (arith, parts, ap (month_flight (home_of problem k).days) (fixed-listed problem k))

-- units and missed targets together
near : (units : ℤ) (most a b weighed : ℕ) → IsWithin most units → a ≤ b + weighed → b ≤ a + weighed
    → IsWithin (most + weighed) (units +ℤ pos a -ℤ pos b)
near units most a b weighed within above below =
    (omega (arith, ints, within.0, within.1), omega (arith, ints, within.0, within.1))

no_difference : (z : ℤ) → IsWithin most_extra (z -ℤ z)
no_difference z = (omega (arith, ints), omega (arith, ints))

-- a line costs nearly what no pairings cost, where its flight is that of the fixed duties and of each pairing
pub line-near : (problem : Problem) (k : ℕ) (set : List ℕ)
    → flight_of problem k set ≡ month_flight (home_of problem k).days (filter (is_of_person k) problem.duties) + sum_by (minutes_of_pairing problem k) set
    → IsSound problem → IsLine problem k set
    → IsWithin most_extra (line_cost problem k set -ℤ line_cost problem k [])
line-near problem k set parts sound line =
    elim line.legal [
      | inl none ↦ subst (λ s. IsWithin most_extra (line_cost problem k s -ℤ line_cost problem k [])) (sym none) (no_difference (line_cost problem k []))
      | inr holds ↦
          let most : ℕ = MOST_FLIGHT_IN_A_YEAR in
          let flown : flight_of problem k set ≤ most = omega (arith, holds (LimitRule FlightYear)) in
          let fixed : flight_of problem k [] ≤ most =
          omega (arith, flown, fixed_in_set problem k set parts) in
          let weight = weight_of problem in
          let target = target_of problem k in
          let above =
          missed-near weight (flight_of problem k set)
          (flight_of problem k []) target most sound.weight flown fixed in
          let below =
          missed-near weight (flight_of problem k [])
          (flight_of problem k set) target most sound.weight fixed flown in
          let units = units-of_set problem k set sound line.ascending line.places in
          subst (λ z. IsWithin most_extra (line_cost problem k set -ℤ z)) (sym (line_cost-none problem k))
          (near (total (units_of problem k) set) most_units (missed_target problem k set) (missed_target problem k []) (MOST_WEIGHT * most) units above below)
    ]
