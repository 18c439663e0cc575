use Rattle.std.proofs.Common.{◌≡◌, ℤ, [], pos, ap, sym, ◌∙◌, w64, to_z, of_z, FitsSigned, rules, arith}
use Rattle.std.proofs.lemmas.Int.{to_z-of_z, ints}
use Rattle.roster_model.specs.Costs.{line_cost, missed_target}
use Rattle.roster_model.specs.Places.{set_of}
use Rattle.roster_model.specs.Problem.{units_of}
use Rattle.roster_model.proofs.CostLemmas.{total-nil}
use Rattle.roster_plan.proofs.bound.missed_by.Goals as goal

-- what the person misses without a pairing
idle : (c : goal.After-line_cost)
    → to_z w64 (of_z w64 c.line_cost.result) ≡ pos (missed_target c.args.problem.now c.args.k [])
idle c =
    let cost : ℤ = c.line_cost.result in
    let near = c.line_cost.ensures.bound in
    let fits : FitsSigned w64 cost = search rules in
    let told : to_z w64 (of_z w64 cost) ≡ cost = to_z-of_z w64 cost fits in
    let value = c.line_cost.ensures.value ∙ ap (line_cost c.args.problem.now c.args.k) c.empty.ensures in
    let none = total-nil (units_of c.args.problem.now c.args.k) in
    omega (arith, ints, told, value, none)

pub returns-clause-below : goal.returns-clause-below
returns-clause-below c places home =
    let none : set_of c.args.k places ≡ [] = home c.args.k c.requires (sym c.if-is_person_of.ensures) in
    let misses : missed_target c.args.problem.now c.args.k (set_of c.args.k places)
    ≡ missed_target c.args.problem.now c.args.k [] =
    ap (missed_target c.args.problem.now c.args.k) none in
    omega (arith, ints, idle c, misses)

pub returns-clause-low : goal.returns-clause-low
returns-clause-low c = omega (arith, ints, idle c)
