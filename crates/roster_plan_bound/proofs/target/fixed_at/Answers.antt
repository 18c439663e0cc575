use Rattle.std.proofs.Common.{◌≡◌, ◌⊎◌, ℤ, pos, ◌+ℤ◌, ◌-ℤ◌, ◌*ℤ◌, ◌≤ℤ◌, w64, to_z, of_z, FitsSigned, arith, ap, ◌∙◌, subst, sym, unsigned_abs}
use Rattle.std.proofs.lemmas.Int.{ints, to_z-of_z}
use Rattle.roster_cost.specs.Amounts.{IsWithin}
use Rattle.roster_plan_bound.specs.declared.parts.TheConstants.{MOST_FIXED, MOST_LEAST}
use Rattle.roster_plan_bound.specs.Prospects.{IsFixed}
use Rattle.roster_plan_bound.proofs.ProductLemmas.{told_in}
use Rattle.roster_plan_bound.proofs.TargetLemmas.{fixed_near, fixed_spent}
use Rattle.roster_plan_bound.proofs.RowLemmas.{within-more}
use Rattle.roster_plan_bound.proofs.target.fixed_at.Goals as goal

-- what a table has beside its pairings, as words have it
in_words : (worth weight short : ℤ) → FitsSigned w64 worth → FitsSigned w64 weight → FitsSigned w64 short
    → (to_z w64 (of_z w64 worth) *ℤ to_z w64 (of_z w64 short)) -ℤ (to_z w64 (of_z w64 weight) *ℤ pos (unsigned_abs (to_z w64 (of_z w64 short)))) ≡ (worth *ℤ short) -ℤ (weight *ℤ pos (unsigned_abs short))
in_words worth weight short first second third =
    ap (λ z. (z *ℤ to_z w64 (of_z w64 short)) -ℤ (to_z w64 (of_z w64 weight) *ℤ pos (unsigned_abs (to_z w64 (of_z w64 short))))) (to_z-of_z w64 worth first)
    ∙ ap (λ z. (worth *ℤ to_z w64 (of_z w64 short)) -ℤ (z *ℤ pos (unsigned_abs (to_z w64 (of_z w64 short))))) (to_z-of_z w64 weight second)
    ∙ ap (λ z. (worth *ℤ z) -ℤ (weight *ℤ pos (unsigned_abs z))) (to_z-of_z w64 short third)

pub returns-then-is_spent-clause-value : goal.returns-then-is_spent-clause-value
returns-then-is_spent-clause-value c =
    let worth : ℤ = c.args.worth in
    let weight : ℤ = c.args.weight in
    let short : ℤ = c.args.short in
    let first = to_z-of_z w64 worth c.ranges.worth in
    let second = to_z-of_z w64 weight c.ranges.weight in
    let third = to_z-of_z w64 short c.ranges.short in
    let told = told_in MOST_LEAST c.less_spare.result c.less_spare.ensures.within (omega arith) in
    let near = told_in MOST_FIXED c.spent_term.result c.spent_term.ensures.within (omega arith) in
    let spent : c.spent_term.result ≡ (weight *ℤ pos (unsigned_abs (short +ℤ pos c.args.spare))) -ℤ (weight *ℤ pos (unsigned_abs short)) =
    c.spent_term.ensures.value
    ∙ ap (λ z. (z *ℤ pos (unsigned_abs (to_z w64 (of_z w64 short) +ℤ pos c.args.spare))) -ℤ (z *ℤ pos (unsigned_abs (to_z w64 (of_z w64 short))))) second
    ∙ ap (λ z. (weight *ℤ pos (unsigned_abs (z +ℤ pos c.args.spare))) -ℤ (weight *ℤ pos (unsigned_abs z))) third in
    let less : c.less_spare.result ≡ c.spent_term.result -ℤ (worth *ℤ pos c.args.spare) =
    c.less_spare.ensures.value
    ∙ ap (λ z. z -ℤ (to_z w64 (of_z w64 worth) *ℤ pos c.args.spare)) near
    ∙ ap (λ z. c.spent_term.result -ℤ (z *ℤ pos c.args.spare)) first in
    let one : (weight ≤ℤ worth) ⊎ ((short +ℤ pos c.args.spare) ≤ℤ pos 0) =
    subst (λ z. (weight ≤ℤ worth) ⊎ ((z +ℤ pos c.args.spare) ≤ℤ pos 0)) third
    (subst (λ z. (weight ≤ℤ z) ⊎ ((to_z w64 (of_z w64 short) +ℤ pos c.args.spare) ≤ℤ pos 0)) first
    (subst (λ z. (z ≤ℤ to_z w64 (of_z w64 worth)) ⊎ ((to_z w64 (of_z w64 short) +ℤ pos c.args.spare) ≤ℤ pos 0)) second
    (c.is_spent.ensures.yes c.if-is_spent.true))) in
    subst (IsFixed worth weight short c.args.spare) (sym told)
    (fixed_spent worth weight short c.args.spare c.spent_term.result c.less_spare.result c.requires.weight.0 c.requires.low one spent less)

pub returns-clause-value : goal.returns-clause-value
returns-clause-value c =
    let worth : ℤ = c.args.worth in
    let weight : ℤ = c.args.weight in
    let first = to_z-of_z w64 worth c.ranges.worth in
    let second = to_z-of_z w64 weight c.ranges.weight in
    let told = told_in MOST_FIXED c.fixed_within.result c.fixed_within.ensures.within (omega arith) in
    let no = c.is_spent.ensures.no c.if-is_spent.false in
    let near : worth ≤ℤ weight = omega (arith, ints, no, first, second) in
    let value = c.fixed_within.ensures.value ∙ in_words worth weight c.args.short c.ranges.worth c.ranges.weight c.ranges.short in
    subst (IsFixed worth weight c.args.short c.args.spare) (sym told)
    (fixed_near worth weight c.args.short c.args.spare c.fixed_within.result c.requires.low near value)

pub returns-clause-within : goal.returns-clause-within
returns-clause-within c =
    let told = told_in MOST_FIXED c.fixed_within.result c.fixed_within.ensures.within (omega arith) in
    subst (IsWithin MOST_LEAST) (sym told)
    (within-more MOST_FIXED MOST_LEAST c.fixed_within.result (omega arith) c.fixed_within.ensures.within)
