use Rattle.std.proofs.Common.{◌≡◌, ◌≤◌, ◌*◌, sym, subst, arith, rules, w64, ℤ, ◌+ℤ◌, FitsSigned, to_z, of_z}
use Rattle.std.proofs.lemmas.Int.{ints, to_z-of_z}
use Rattle.roster_model.specs.declared.limits.TheConstants.{MOST_PAIRINGS, MOST_WEIGHT}
use Rattle.roster_model.specs.Problem.{weight_of}
use Rattle.roster_cost.specs.Amounts.{IsWithin}
use Rattle.roster_plan_bound.specs.declared.parts.TheConstants.{MOST_FLIGHT}
use Rattle.roster_plan_bound.specs.declared.seek.Spot.{Spot}
use Rattle.roster_plan_bound.specs.Prospects.{term_of, Outlook}
use Rattle.roster_plan_bound.specs.Seeks.{IsSpot}
use Rattle.roster_plan_bound.proofs.SeekLemmas.{gain-here, most_term, term-within}
use Rattle.roster_plan_bound.proofs.seek.lower.Goals as goal

-- the sum that the code takes
abbrev summed : ℤ → ℤ → ℤ
summed value term = to_z w64 (of_z w64 value) +ℤ to_z w64 (of_z w64 term)

told : (outlook : Outlook) (spot : Spot) (term : ℤ) → weight_of outlook.problem ≤ MOST_WEIGHT → IsSpot outlook spot
    → term ≡ term_of outlook.problem outlook.person spot.end.flight
    → FitsSigned w64 (summed spot.end.value term) × (summed spot.end.value term ≡ spot.end.value +ℤ term)
told outlook spot term light is same =
    let room = is.room in
    let flight = is.flight in
    let few : spot.end.flight ≤ MOST_PAIRINGS * MOST_FLIGHT = omega (arith, room, flight) in
    let term_within : IsWithin most_term term =
    subst (IsWithin most_term) (sym same)
    (term-within outlook.problem outlook.person spot.end.flight light few) in
    let low = is.value.0 in
    let high = is.value.1 in
    let value_fits : FitsSigned w64 spot.end.value = search rules in
    let value_told : to_z w64 (of_z w64 spot.end.value) ≡ spot.end.value = to_z-of_z w64 spot.end.value value_fits in
    let term_low = term_within.0 in
    let term_high = term_within.1 in
    let term_fits : FitsSigned w64 term = search rules in
    let term_told : to_z w64 (of_z w64 term) ≡ term = to_z-of_z w64 term term_fits in
    let fits : FitsSigned w64 (summed spot.end.value term) = search rules in
    (fits, omega (arith, ints, value_told, term_told))

pub overflow_add-gain : goal.overflow_add-gain
overflow_add-gain c = (told c.args.prospect.now c.args.spot.now c.term.result (subst (λ p. weight_of p ≤ MOST_WEIGHT) c.problem.ensures c.is_sound.ensures.sound.weight) c.requires c.term.ensures).0

pub returns-then-gain-least-clause-least : goal.returns-then-gain-least-clause-least
returns-then-gain-least-clause-least c before rest start none =
    let sum = told c.args.prospect.now c.args.spot.now c.term.result (subst (λ p. weight_of p ≤ MOST_WEIGHT) c.problem.ensures c.is_sound.ensures.sound.weight) c.requires c.term.ensures in
    let whole = to_z-of_z w64 (summed c.args.spot.now.end.value c.term.result) sum.0 in
    let same = sum.1 in
    let term = c.term.ensures in
    let gain = gain-here c.args.prospect.now c.args.spot.now before rest start none in
    omega (arith, ints, whole, same, term, gain)

pub returns-then-gain-least-clause-word : goal.returns-then-gain-least-clause-word
returns-then-gain-least-clause-word c before =
    let sum = told c.args.prospect.now c.args.spot.now c.term.result (subst (λ p. weight_of p ≤ MOST_WEIGHT) c.problem.ensures c.is_sound.ensures.sound.weight) c.requires c.term.ensures in
    subst (FitsSigned w64) (sym (to_z-of_z w64 (summed c.args.spot.now.end.value c.term.result) sum.0)) sum.0

pub returns-else-gain-least-clause-least : goal.returns-else-gain-least-clause-least
returns-else-gain-least-clause-least c before rest start none =
    let sum = told c.args.prospect.now c.args.spot.now c.term.result (subst (λ p. weight_of p ≤ MOST_WEIGHT) c.problem.ensures c.is_sound.ensures.sound.weight) c.requires c.term.ensures in
    let whole = to_z-of_z w64 (summed c.args.spot.now.end.value c.term.result) sum.0 in
    let same = sum.1 in
    let term = c.term.ensures in
    let gain = gain-here c.args.prospect.now c.args.spot.now before rest start none in
    let above = c.if-gain-least.false in
    omega (arith, ints, whole, same, term, gain, above)
