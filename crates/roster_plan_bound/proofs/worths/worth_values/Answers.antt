use Rattle.std.proofs.Common.{◌≡◌, ◌+◌, length, ℤ, pos, ◌+ℤ◌, ◌*ℤ◌, get_or, ap, ◌∙◌, subst, sym, w64, to_z, of_z, arith}
use Rattle.std.specs.Prelude.{All}
use Rattle.std.proofs.lemmas.List.{length_push}
use Rattle.std.proofs.lemmas.List.Elements.{All-push}
use Rattle.roster_cost.specs.Amounts.{IsWithin}
use Rattle.roster_plan_bound.specs.declared.parts.TheConstants.{MOST_LADEN, MOST_STEP}
use Rattle.roster_plan_bound.specs.Chains.{value_at}
use Rattle.roster_plan_bound.proofs.ProductLemmas.{told_in}
use Rattle.roster_plan_bound.proofs.RowLemmas.{each_more}
use Rattle.roster_plan_bound.proofs.worths.worth_values.Goals as goal

-- what is pushed is what was told
told : (c : goal.In_ok-push) → to_z w64 (of_z w64 c.worth_value.result) ≡ c.worth_value.result
told c = told_in MOST_STEP c.worth_value.result c.worth_value.ensures.within (omega arith)

value_here : (c : goal.In_ok-push) → c.worth_value.result ≡ value_at c.args.units.now c.loop-p.p +ℤ (to_z w64 (of_z w64 c.args.worth) *ℤ pos (get_or c.args.flights.now c.loop-p.p 0))
value_here c =
    let within : IsWithin MOST_LADEN (value_at c.args.units.now c.loop-p.p) =
    c.requires.units c.loop-p.p (pos 0) c.loop-p-test.true in
    c.worth_value.ensures.value
    ∙ ap (λ z. z +ℤ (to_z w64 (of_z w64 c.args.worth) *ℤ pos (get_or c.args.flights.now c.loop-p.p 0))) (told_in MOST_LADEN (value_at c.args.units.now c.loop-p.p) within (omega arith))

pub loop-p-preserved : goal.loop-p-preserved
loop-p-preserved c =
    let inv = c.loop-p.invariant in
    let pushed = c.in_ok-push.ensures.items in
    let value : ℤ = to_z w64 (of_z w64 c.worth_value.result) in
    record {
      long = ap length pushed ∙ length_push c.loop-p.values.items value ∙ ap (λ n. n + 1) inv.long;
      each =
          each_more
          (λ q v. v ≡ value_at c.args.units.now q +ℤ (to_z w64 (of_z w64 c.args.worth) *ℤ pos (get_or c.args.flights.now q 0)))
          (pos 0) c.loop-p.p c.loop-p.values.items c.push.new.self.items value pushed inv.long inv.each
          (told c ∙ value_here c);
      within = subst (All (IsWithin MOST_STEP)) (sym pushed) (All-push (IsWithin MOST_STEP) c.loop-p.values.items value inv.within (subst (IsWithin MOST_STEP) (sym (told c)) c.worth_value.ensures.within));
    }
