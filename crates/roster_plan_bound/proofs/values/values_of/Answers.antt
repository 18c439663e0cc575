use Rattle.std.proofs.Common.{◌≡◌, ◌+◌, length, ℤ, pos, ◌-ℤ◌, ◌*ℤ◌, ap, ◌∙◌, subst, sym, w64, to_z, of_z, FitsSigned, rules}
use Rattle.std.specs.Prelude.{All}
use Rattle.std.proofs.lemmas.Int.{to_z-of_z}
use Rattle.std.proofs.lemmas.List.{length_push}
use Rattle.std.proofs.lemmas.List.Elements.{All-push}
use Rattle.roster_model.specs.Problem.{units_of}
use Rattle.roster_cost.specs.Amounts.{IsWithin}
use Rattle.roster_plan_bound.specs.declared.parts.TheConstants.{MOST_PLAN_PRICE, MOST_CHAIN_VALUE, PARTS}
use Rattle.roster_plan_bound.specs.Reduced.{price_at}
use Rattle.roster_plan_bound.proofs.RowLemmas.{each_more}
use Rattle.roster_plan_bound.proofs.values.values_of.Goals as goal

-- what is pushed is what was told
told : (c : goal.In_ok-push) → to_z w64 (of_z w64 c.value_of.result) ≡ c.value_of.result
told c =
    let within = c.value_of.ensures.within in
    let fits : FitsSigned w64 c.value_of.result = search rules in
    to_z-of_z w64 c.value_of.result fits

value_here : (c : goal.In_ok-push) → c.value_of.result ≡ (pos PARTS *ℤ units_of c.args.problem.now c.args.k c.loop-p.p) -ℤ price_at c.args.prices.now c.loop-p.p
value_here c =
    let within : IsWithin MOST_PLAN_PRICE (price_at c.args.prices.now c.loop-p.p) =
    c.requires.within c.loop-p.p (pos 0) c.loop-p-test.true in
    let fits : FitsSigned w64 (price_at c.args.prices.now c.loop-p.p) = search rules in
    c.value_of.ensures.value ∙ ap (λ y. (pos PARTS *ℤ units_of c.args.problem.now c.args.k c.loop-p.p) -ℤ y) (to_z-of_z w64 (price_at c.args.prices.now c.loop-p.p) fits)

pub loop-p-preserved : goal.loop-p-preserved
loop-p-preserved c =
    let inv = c.loop-p.invariant in
    let pushed = c.in_ok-push.ensures.items in
    let value : ℤ = to_z w64 (of_z w64 c.value_of.result) in
    record {
      long = ap length pushed ∙ length_push c.loop-p.values.items value ∙ ap (λ n. n + 1) inv.long;
      each =
          each_more
          (λ q v. v ≡ (pos PARTS *ℤ units_of c.args.problem.now c.args.k q) -ℤ price_at c.args.prices.now q)
          (pos 0) c.loop-p.p c.loop-p.values.items c.push.new.self.items value pushed inv.long inv.each
          (told c ∙ value_here c);
      within = subst (All (IsWithin MOST_CHAIN_VALUE)) (sym pushed) (All-push (IsWithin MOST_CHAIN_VALUE) c.loop-p.values.items value inv.within (subst (IsWithin MOST_CHAIN_VALUE) (sym (told c)) c.value_of.ensures.within));
    }
