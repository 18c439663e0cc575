use Rattle.std.proofs.Common.{◌≡◌, pos, ◌+◌, ◌*◌, ◌*ℤ◌, w64, to_z, of_z, arith, ap, ◌∙◌, subst, sym, unsigned_abs}
use Rattle.std.proofs.lemmas.Int.{ints, to_z-of_z}
use Rattle.roster_model.specs.declared.limits.TheConstants.{MOST_PAIRINGS, MOST_WEIGHT}
use Rattle.roster_cost.specs.Amounts.{IsWithin}
use Rattle.roster_plan_bound.specs.declared.parts.TheConstants.{MOST_FLIGHT, MOST_SHORT, MOST_SUM, PARTS}
use Rattle.roster_plan_bound.proofs.ProductLemmas.{abs_within, fits_in, pos_within, times_within, told_in}
use Rattle.roster_plan_bound.proofs.RowLemmas.{within-more}
use Rattle.roster_plan_bound.proofs.target.missed_by.Goals as goal

absolute : (c : goal.After-abs) → c.abs.result ≡ pos (unsigned_abs c.args.short)
absolute c = c.abs.ensures.value ∙ ap (λ z. pos (unsigned_abs z)) (to_z-of_z w64 c.args.short c.ranges.short)

away : (c : goal.After-abs) → IsWithin (MOST_SHORT + MOST_PAIRINGS * MOST_FLIGHT) c.abs.result
away c =
    subst (IsWithin (MOST_SHORT + MOST_PAIRINGS * MOST_FLIGHT)) (sym (absolute c))
    (pos_within (MOST_SHORT + MOST_PAIRINGS * MOST_FLIGHT) (unsigned_abs c.args.short) (abs_within (MOST_SHORT + MOST_PAIRINGS * MOST_FLIGHT) c.args.short c.requires.short))

heavy : (c : goal.After-abs) → IsWithin (PARTS * MOST_WEIGHT) c.args.weight
heavy c =
    let low = c.requires.weight.0 in
    let high = c.requires.weight.1 in
    (omega (arith, ints, low), high)

near : (c : goal.After-abs) → IsWithin MOST_SUM (c.args.weight *ℤ c.abs.result)
near c =
    within-more ((PARTS * MOST_WEIGHT) * (MOST_SHORT + MOST_PAIRINGS * MOST_FLIGHT)) MOST_SUM (c.args.weight *ℤ c.abs.result) (omega arith)
    (times_within c.args.weight c.abs.result (PARTS * MOST_WEIGHT) (MOST_SHORT + MOST_PAIRINGS * MOST_FLIGHT) (heavy c) (away c))

same : (c : goal.After-abs)
    → to_z w64 (of_z w64 c.args.weight) *ℤ to_z w64 (of_z w64 c.abs.result) ≡ c.args.weight *ℤ c.abs.result
same c =
    ap (λ z. z *ℤ to_z w64 (of_z w64 c.abs.result)) (to_z-of_z w64 c.args.weight c.ranges.weight)
    ∙ ap (λ z. c.args.weight *ℤ z) (told_in (MOST_SHORT + MOST_PAIRINGS * MOST_FLIGHT) c.abs.result (away c) (omega arith))

pub overflow_mul-result : goal.overflow_mul-result
overflow_mul-result c = fits_in MOST_SUM _ (subst (IsWithin MOST_SUM) (sym (same c)) (near c)) (omega arith)

told : (c : goal.After-abs)
    → to_z w64 (of_z w64 (to_z w64 (of_z w64 c.args.weight) *ℤ to_z w64 (of_z w64 c.abs.result))) ≡ c.args.weight *ℤ c.abs.result
told c = ap (λ z. to_z w64 (of_z w64 z)) (same c) ∙ told_in MOST_SUM _ (near c) (omega arith)

pub returns-clause-value : goal.returns-clause-value
returns-clause-value c = told c ∙ ap (λ z. c.args.weight *ℤ z) (absolute c)

pub returns-clause-within : goal.returns-clause-within
returns-clause-within c = subst (IsWithin MOST_SUM) (sym (told c)) (near c)
