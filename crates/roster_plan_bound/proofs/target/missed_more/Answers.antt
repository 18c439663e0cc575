use Rattle.std.proofs.Common.{◌≡◌, ℤ, pos, ◌+ℤ◌, ◌-ℤ◌, ◌*ℤ◌, w64, to_z, of_z, FitsSigned, rules, arith, ap, ◌∙◌, unsigned_abs}
use Rattle.std.proofs.lemmas.Int.{ints, to_z-of_z}
use Rattle.roster_plan_bound.specs.declared.parts.TheConstants.{MOST_SUM}
use Rattle.roster_plan_bound.proofs.ProductLemmas.{told_in}
use Rattle.roster_plan_bound.proofs.target.missed_more.Goals as goal

pub returns : goal.returns
returns c =
    let low = c.requires.short.0 in
    let high = c.requires.short.1 in
    let more : to_z w64 (of_z w64 (to_z w64 (of_z w64 c.args.short) +ℤ to_z w64 c.args.flight)) ≡ c.args.short +ℤ pos c.args.flight =
    omega (arith, ints, low, high, c.requires.flight) in
    let weight = to_z-of_z w64 c.args.weight c.ranges.weight in
    let short = to_z-of_z w64 c.args.short c.ranges.short in
    let first = c.missed_by.ensures.value
    ∙ ap (λ z. z *ℤ pos (unsigned_abs (to_z w64 (of_z w64 (to_z w64 (of_z w64 c.args.short) +ℤ to_z w64 c.args.flight))))) weight
    ∙ ap (λ z. c.args.weight *ℤ pos (unsigned_abs z)) more in
    let second = c.missed_by-2.ensures.value
    ∙ ap (λ z. z *ℤ pos (unsigned_abs (to_z w64 (of_z w64 c.args.short)))) weight
    ∙ ap (λ z. c.args.weight *ℤ pos (unsigned_abs z)) short in
    let first_told = told_in MOST_SUM c.missed_by.result c.missed_by.ensures.within (omega arith) in
    let second_told = told_in MOST_SUM c.missed_by-2.result c.missed_by-2.ensures.within (omega arith) in
    let apart : ℤ = to_z w64 (of_z w64 c.missed_by.result) -ℤ to_z w64 (of_z w64 c.missed_by-2.result) in
    let fits : FitsSigned w64 apart = search rules in
    let told : to_z w64 (of_z w64 apart) ≡ apart = to_z-of_z w64 apart fits in
    omega (arith, ints, told, first, second, first_told, second_told)
