use Rattle.std.proofs.Common.{◌≡◌, pos, ◌*◌, ◌-ℤ◌, ◌*ℤ◌, w64, to_z, of_z, arith, ap, ◌∙◌, subst, sym, unsigned_abs}
use Rattle.std.proofs.lemmas.Int.{ints, to_z-of_z}
use Rattle.roster_model.specs.declared.limits.TheConstants.{MOST_WEIGHT}
use Rattle.roster_cost.specs.Amounts.{IsWithin}
use Rattle.roster_plan_bound.specs.declared.parts.TheConstants.{MOST_FIXED, MOST_SHORT, MOST_WORTH, PARTS}
use Rattle.roster_plan_bound.proofs.ProductLemmas.{abs_within, fits_in, pos_within, product_told, times_within, told_in}
use Rattle.roster_plan_bound.proofs.target.fixed_within.Goals as goal

absolute : (c : goal.After-abs) → c.abs.result ≡ pos (unsigned_abs c.args.short)
absolute c = c.abs.ensures.value ∙ ap (λ z. pos (unsigned_abs z)) (to_z-of_z w64 c.args.short c.ranges.short)

away : (c : goal.After-abs) → IsWithin MOST_SHORT c.abs.result
away c =
    subst (IsWithin MOST_SHORT) (sym (absolute c))
    (pos_within MOST_SHORT (unsigned_abs c.args.short) (abs_within MOST_SHORT c.args.short c.requires.short))

heavy : (c : goal.After-abs) → IsWithin (PARTS * MOST_WEIGHT) c.args.weight
heavy c =
    let low = c.requires.weight.0 in
    let high = c.requires.weight.1 in
    (omega (arith, ints, low), high)

brought : (c : goal.After-abs)
    → to_z w64 (of_z w64 (to_z w64 (of_z w64 c.args.worth) *ℤ to_z w64 (of_z w64 c.args.short))) ≡ c.args.worth *ℤ c.args.short
brought c =
    product_told c.args.worth c.args.short MOST_WORTH MOST_SHORT c.requires.worth c.requires.short (omega arith)
    (omega arith) (omega arith)

weighed : (c : goal.After-abs)
    → to_z w64 (of_z w64 (to_z w64 (of_z w64 c.args.weight) *ℤ to_z w64 (of_z w64 c.abs.result))) ≡ c.args.weight *ℤ c.abs.result
weighed c =
    product_told c.args.weight c.abs.result (PARTS * MOST_WEIGHT) MOST_SHORT (heavy c) (away c) (omega arith)
    (omega arith) (omega arith)

apart : (c : goal.After-abs) → IsWithin MOST_FIXED ((c.args.worth *ℤ c.args.short) -ℤ (c.args.weight *ℤ c.abs.result))
apart c =
    let first = times_within c.args.worth c.args.short MOST_WORTH MOST_SHORT c.requires.worth c.requires.short in
    let second =
    times_within c.args.weight c.abs.result (PARTS * MOST_WEIGHT) MOST_SHORT (heavy c) (away c) in
    let low = first.0 in
    let high = first.1 in
    let low_second = second.0 in
    let high_second = second.1 in
    (omega (arith, ints, low, high_second), omega (arith, ints, high, low_second))

same : (c : goal.After-abs) → to_z w64 (of_z w64 (to_z w64 (of_z w64 c.args.worth) *ℤ to_z w64 (of_z w64 c.args.short))) -ℤ to_z w64 (of_z w64 (to_z w64 (of_z w64 c.args.weight) *ℤ to_z w64 (of_z w64 c.abs.result))) ≡ (c.args.worth *ℤ c.args.short) -ℤ (c.args.weight *ℤ c.abs.result)
same c = omega (arith, ints, brought c, weighed c)

pub overflow_sub-result : goal.overflow_sub-result
overflow_sub-result c =
    fits_in MOST_FIXED _ (subst (IsWithin MOST_FIXED) (sym (same c)) (apart c)) (omega arith)

told : (c : goal.After-abs) → to_z w64 (of_z w64 (to_z w64 (of_z w64 (to_z w64 (of_z w64 c.args.worth) *ℤ to_z w64 (of_z w64 c.args.short))) -ℤ to_z w64 (of_z w64 (to_z w64 (of_z w64 c.args.weight) *ℤ to_z w64 (of_z w64 c.abs.result))))) ≡ (c.args.worth *ℤ c.args.short) -ℤ (c.args.weight *ℤ c.abs.result)
told c = ap (λ z. to_z w64 (of_z w64 z)) (same c) ∙ told_in MOST_FIXED _ (apart c) (omega arith)

pub returns-clause-value : goal.returns-clause-value
returns-clause-value c =
    told c ∙ ap (λ z. (c.args.worth *ℤ c.args.short) -ℤ (c.args.weight *ℤ z)) (absolute c)

pub returns-clause-within : goal.returns-clause-within
returns-clause-within c = subst (IsWithin MOST_FIXED) (sym (told c)) (apart c)
