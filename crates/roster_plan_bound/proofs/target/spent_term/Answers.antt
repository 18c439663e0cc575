use Rattle.std.proofs.Common.{◌≡◌, pos, ◌+ℤ◌, ◌-ℤ◌, ◌*ℤ◌, w64, to_z, of_z, arith, ap, ◌∙◌, subst, sym, unsigned_abs}
use Rattle.std.proofs.lemmas.Int.{to_z-of_z}
use Rattle.roster_cost.specs.Amounts.{IsWithin}
use Rattle.roster_plan_bound.specs.declared.parts.TheConstants.{MOST_FIXED}
use Rattle.roster_plan_bound.proofs.ProductLemmas.{told_in}
use Rattle.roster_plan_bound.proofs.TargetLemmas.{spent_within}
use Rattle.roster_plan_bound.proofs.target.spent_term.Goals as goal

-- as words have it
value : (c : goal.After-missed_more) → c.missed_more.result ≡ (c.args.weight *ℤ pos (unsigned_abs (c.args.short +ℤ pos c.args.spare))) -ℤ (c.args.weight *ℤ pos (unsigned_abs c.args.short))
value c =
    c.missed_more.ensures
    ∙ ap (λ z. (z *ℤ pos (unsigned_abs (to_z w64 (of_z w64 c.args.short) +ℤ pos c.args.spare))) -ℤ (z *ℤ pos (unsigned_abs (to_z w64 (of_z w64 c.args.short))))) (to_z-of_z w64 c.args.weight c.ranges.weight)
    ∙ ap (λ z. (c.args.weight *ℤ pos (unsigned_abs (z +ℤ pos c.args.spare))) -ℤ (c.args.weight *ℤ pos (unsigned_abs z))) (to_z-of_z w64 c.args.short c.ranges.short)

within : (c : goal.After-missed_more) → IsWithin MOST_FIXED c.missed_more.result
within c =
    subst (IsWithin MOST_FIXED) (sym (value c))
    (spent_within c.args.weight c.args.short c.args.spare c.requires.weight.0 c.requires.weight.1 c.requires.short c.requires.spare)

pub returns-clause-value : goal.returns-clause-value
returns-clause-value c = told_in MOST_FIXED c.missed_more.result (within c) (omega arith) ∙ value c

pub returns-clause-within : goal.returns-clause-within
returns-clause-within c = subst (IsWithin MOST_FIXED) (sym (told_in MOST_FIXED c.missed_more.result (within c) (omega arith))) (within c)
