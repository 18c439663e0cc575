use Rattle.std.proofs.Common.{◌≡◌, ℕ, ◌<◌, ◌≤◌, ℤ, pos, ◌-ℤ◌, w64, to_z, of_z, FitsSigned, rules, arith}
use Rattle.std.proofs.Math.Nat.{mul-le-mul_left, mul-sub}
use Rattle.std.proofs.lemmas.Int.{ints, to_z-of_z}
use Rattle.roster_model.specs.Problem.{weight_of}
use Rattle.roster_plan_bound.proofs.terms.weighed.Goals as goal

le_below : (a b : ℕ) → a < b → a ≤ b
le_below a b below = omega arith

le_above : (a b : ℕ) → a ≤ b → a ≤ b
le_above a b l = l

pub returns-then-missed-before-clause-value : goal.returns-then-missed-before-clause-value
returns-then-missed-before-clause-value c =
    let result : ℤ = c.weighed_minutes.result in
    let within = c.weighed_minutes.ensures.within in
    let fits : FitsSigned w64 result = search rules in
    let told : to_z w64 (of_z w64 result) ≡ result = to_z-of_z w64 result fits in
    let turned : ℤ = pos 0 -ℤ to_z w64 (of_z w64 result) in
    let turned_fits : FitsSigned w64 turned = search rules in
    let turned_told : to_z w64 (of_z w64 turned) ≡ turned = to_z-of_z w64 turned turned_fits in
    let parted = mul-sub (weight_of c.args.problem.now) c.args.before c.args.missed in
    let more =
    mul-le-mul_left (weight_of c.args.problem.now)
    (le_below c.args.missed c.args.before c.if-missed-before.true) in
    omega
    (arith, ints, told, turned_told, parted, more, c.weighed_minutes.ensures.value, c.if-missed-before.true)

pub returns-else-missed-before-clause-value : goal.returns-else-missed-before-clause-value
returns-else-missed-before-clause-value c =
    let result : ℤ = c.weighed_minutes-else-missed-before.result in
    let within = c.weighed_minutes-else-missed-before.ensures.within in
    let fits : FitsSigned w64 result = search rules in
    let told : to_z w64 (of_z w64 result) ≡ result = to_z-of_z w64 result fits in
    let parted = mul-sub (weight_of c.args.problem.now) c.args.missed c.args.before in
    let more =
    mul-le-mul_left (weight_of c.args.problem.now)
    (le_above c.args.before c.args.missed c.if-missed-before.false) in
    omega (arith, ints, told, parted, more, c.weighed_minutes-else-missed-before.ensures.value, c.if-missed-before.false)
