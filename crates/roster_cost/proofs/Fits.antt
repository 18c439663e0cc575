-- What rosters cost fits a signed word of 64 bits, by the limits of a book.
use Rattle.std.proofs.Common.{ℕ, suc, ◌+◌, ◌*◌, ◌^◌, ◌<◌, ◌≤◌, List, [], ◌∷◌, length, ℤ, pos, negsuc, arith}
use Rattle.std.specs.Prelude.{All, unsigned_abs}
use Rattle.std.specs.List.Sorted.{IsStrictlyIncreasing}
use Rattle.std.proofs.lemmas.Int.{ints}
use Rattle.roster_model.specs.declared.limits.TheConstants.{MOST_DUTIES, MOST_MINUTES, MOST_MONTH_MINUTES, MOST_PAIRINGS, MOST_PENALTY, MOST_PERSONS, MOST_UNITS, MOST_WEIGHT}
use Rattle.roster_model.specs.Costs.{total}
use Rattle.roster_model.specs.Problem.{Problem, units_of}
use Rattle.roster_model.proofs.CostLemmas.{total-nil, total-cons, units-limited}
use Rattle.roster_model.proofs.SetLemmas.{length_within}
use Rattle.roster_problem.specs.Sound.{IsSound}
use Rattle.roster_cost.specs.Amounts.{IsWithin, most_units}

-- ---- a roster

-- All persons' flight is no more than each duty has at most, since a duty is on one list.
pub roster_fits : MOST_PAIRINGS * MOST_PENALTY + most_units + MOST_WEIGHT * (MOST_DUTIES * MOST_MONTH_MINUTES + MOST_PERSONS * MOST_MINUTES) < 2 ^ 63
roster_fits = omega arith

-- ---- numbers within limits

pub within_from_abs : (z : ℤ) (most : ℕ) → unsigned_abs z ≤ most → IsWithin most z
within_from_abs (pos n) most h = let small : n ≤ most = h in (omega (arith, ints), omega (arith, ints))
within_from_abs (negsuc n) most h = let small : suc n ≤ most = h in (omega (arith, ints), omega (arith, ints))

pub within_more : (a b : ℕ) (z : ℤ) → IsWithin a z → a ≤ b → IsWithin b z
within_more a b z h l = (omega (arith, ints, h.0), omega (arith, ints, h.1))

-- ---- units

pub units-within : (problem : Problem) (k p : ℕ) → IsSound problem
    → IsWithin MOST_UNITS (units_of problem k p)
units-within problem k p sound =
    within_from_abs (units_of problem k p) MOST_UNITS (units-limited problem.costs k p sound.units)

pub total-within : (cost : ℕ → ℤ) (most : ℕ) → ((p : ℕ) → IsWithin most (cost p)) → (set : List ℕ)
    → IsWithin (length set * most) (total cost set)
total-within cost most each [] = (omega (arith, ints, total-nil cost), omega (arith, ints, total-nil cost))
total-within cost most each (p ∷ set) =
    let rest = total-within cost most each set in
    let here = each p in
    (omega (arith, ints, total-cons cost p set, here.0, rest.0), omega (arith, ints, total-cons cost p set, here.1, rest.1))

pub units-of_set : (problem : Problem) (k : ℕ) (set : List ℕ) → IsSound problem → IsStrictlyIncreasing set
    → All (λ p. p < length problem.pairings) set → IsWithin most_units (total (units_of problem k) set)
units-of_set problem k set sound rises places =
    let few = length_within set (length problem.pairings) rises places in
    let all = sound.pairings in
    within_more (length set * MOST_UNITS) most_units _
    (total-within (units_of problem k) MOST_UNITS (λ p. units-within problem k p sound) set)
    (omega (arith, few, all))
