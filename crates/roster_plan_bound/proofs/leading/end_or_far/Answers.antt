use Rattle.std.proofs.Common.{◌≡◌, length, Some, refl, sym, ◌∙◌, subst, arith, ℤ, ◌≤ℤ◌, w64, FitsSigned, rules}
use Rattle.std.specs.Prelude.{slice_get}
use Rattle.std.proofs.lemmas.Int.{to_z-of_z}
use Rattle.std.proofs.lemmas.Option.{same_Some, slice_get_read}
use Rattle.roster_cost.specs.Amounts.{IsWithin}
use Rattle.roster_plan_bound.specs.declared.parts.TheConstants.{MOST_BEHIND}
use Rattle.roster_plan_bound.proofs.leading.end_or_far.Goals as goal

pub lesser-requires-clause-amount : goal.lesser-requires-clause-amount
lesser-requires-clause-amount c =
    let tails = c.args.behind.now.tails.items in
    let here : slice_get tails c.args.until ≡ Some c.index.result.now =
    slice_get_read tails (length tails) c.args.until c.index.result.now refl
    (omega (arith, c.requires.behind.longer, c.if-until-len.false, c.len.ensures)) c.index.ensures in
    let tail : ℤ = c.index.result.now in
    let within = (c.requires.behind.tails c.args.until tail here).within in
    let fits : FitsSigned w64 tail = search rules in
    subst (IsWithin MOST_BEHIND) (sym (to_z-of_z w64 tail fits)) within

pub returns-clause-tail : goal.returns-clause-tail
returns-clause-tail c inside tail at =
    let tails = c.args.behind.now.tails.items in
    let here : slice_get tails c.args.until ≡ Some c.index.result.now =
    slice_get_read tails (length tails) c.args.until c.index.result.now refl
    (omega (arith, c.requires.behind.longer, inside)) c.index.ensures in
    let same = same_Some c.index.result.now tail (sym here ∙ at) in
    let found : ℤ = c.index.result.now in
    let within = (c.requires.behind.tails c.args.until found here).within in
    let fits : FitsSigned w64 found = search rules in
    let result : ℤ = c.lesser.result in
    let result_within = c.lesser.ensures.within in
    let result_fits : FitsSigned w64 result = search rules in
    subst (λ z. z ≤ℤ tail) (sym (to_z-of_z w64 result result_fits))
    (subst (λ z. result ≤ℤ z) (to_z-of_z w64 found fits ∙ same) c.lesser.ensures.first)
