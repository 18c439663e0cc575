use Rattle.std.proofs.Common.{◌≡◌, ◌+◌, length, ℤ, ap, ◌∙◌, subst, sym, w64, to_z, of_z, FitsSigned, rules}
use Rattle.std.specs.Prelude.{All}
use Rattle.std.proofs.lemmas.Int.{to_z-of_z}
use Rattle.std.proofs.lemmas.List.{length_push}
use Rattle.std.proofs.lemmas.List.Elements.{All-push}
use Rattle.roster_cost.specs.Amounts.{IsWithin}
use Rattle.roster_plan_bound.specs.declared.parts.TheConstants.{MOST_PLAN_PRICE}
use Rattle.roster_plan_bound.proofs.prices.limited.Goals as goal

pub loop-p-preserved : goal.loop-p-preserved
loop-p-preserved c =
    let inv = c.loop-p.invariant in
    let pushed = c.in_ok-push.ensures.items in
    let within = c.limited_price.ensures in
    let fits : FitsSigned w64 c.limited_price.result = search rules in
    let price : ℤ = to_z w64 (of_z w64 c.limited_price.result) in
    let told : price ≡ c.limited_price.result = to_z-of_z w64 c.limited_price.result fits in
    record {
      long = ap length pushed ∙ length_push c.loop-p.prices.items price ∙ ap (λ n. n + 1) inv.long;
      within = subst (All (IsWithin MOST_PLAN_PRICE)) (sym pushed) (All-push (IsWithin MOST_PLAN_PRICE) c.loop-p.prices.items price inv.within (subst (IsWithin MOST_PLAN_PRICE) (sym told) within));
    }
