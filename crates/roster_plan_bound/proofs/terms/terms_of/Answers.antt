use Rattle.std.proofs.Common.{◌≡◌, ◌+◌, ◌-◌, ◌*◌, length, ℤ, pos, ◌-ℤ◌, ◌*ℤ◌, ap, ◌∙◌, subst, sym, arith, w64, to_z, of_z, FitsSigned, rules}
use Rattle.std.specs.Prelude.{All}
use Rattle.std.proofs.lemmas.Int.{to_z-of_z}
use Rattle.std.proofs.lemmas.List.{length_push}
use Rattle.std.proofs.lemmas.List.Elements.{All-push}
use Rattle.roster_model.specs.Problem.{target_of, weight_of}
use Rattle.roster_cost.specs.Amounts.{IsWithin}
use Rattle.roster_plan_bound.specs.declared.parts.TheConstants.{MOST_TARGET_TERM, PARTS}
use Rattle.roster_plan_bound.specs.Networks.{missed_at}
use Rattle.roster_plan_bound.proofs.RowLemmas.{each_more}
use Rattle.roster_plan_bound.proofs.TermLemmas.{terms_are}
use Rattle.roster_plan_bound.proofs.terms.terms_of.Goals as goal

told : (z : ℤ) → IsWithin MOST_TARGET_TERM z → to_z w64 (of_z w64 z) ≡ z
told z within = let fits : FitsSigned w64 z = search rules in to_z-of_z w64 z fits

pub loop-f-preserved : goal.loop-f-preserved
loop-f-preserved c =
    let inv = c.loop-f.invariant in
    let pushed = c.in_ok-push.ensures.items in
    let term : ℤ = to_z w64 (of_z w64 c.term.result) in
    let is = told c.term.result c.term.ensures.within in
    record {
      long = ap length pushed ∙ length_push c.loop-f.terms.items term ∙ ap (λ n. n + 1) inv.long;
      each = each_more (λ g v. v ≡ missed_at c.args.problem.now c.args.k (c.fixed_flight-fixed.result + g * c.args.step) -ℤ missed_at c.args.problem.now c.args.k c.fixed_flight-fixed.result) (pos 0) c.loop-f.f c.loop-f.terms.items c.push.new.self.items term pushed inv.long inv.each (is ∙ c.term.ensures.value);
      within = subst (All (IsWithin MOST_TARGET_TERM)) (sym pushed) (All-push (IsWithin MOST_TARGET_TERM) c.loop-f.terms.items term inv.within (subst (IsWithin MOST_TARGET_TERM) (sym is) c.term.ensures.within));
    }

pub returns-clause-terms : goal.returns-clause-terms
returns-clause-terms c =
    let inv = c.loop-f.invariant in
    let at_end : c.loop-f.f ≡ c.last_state-last.result =
    omega (arith, c.loop-f-test.false, c.loop-f.auto.f-end) in
    terms_are c.args.problem.now c.args.k c.args.step c.loop-f.f c.fixed_flight-fixed.result c.loop-f.terms.items c.push-2.new.self.items (to_z w64 (of_z w64 c.last_term.result)) c.in_ok-push-2.ensures.items inv.long c.fixed_flight-fixed.ensures.value inv.each
    (told c.last_term.result c.last_term.ensures.within ∙ subst (λ n. c.last_term.result ≡ (pos PARTS *ℤ pos (weight_of c.args.problem.now * ((c.fixed_flight-fixed.result + n * c.args.step) - target_of c.args.problem.now c.args.k))) -ℤ missed_at c.args.problem.now c.args.k c.fixed_flight-fixed.result) (sym at_end) c.last_term.ensures.value)

pub returns-clause-within : goal.returns-clause-within
returns-clause-within c =
    let is = told c.last_term.result c.last_term.ensures.within in
    subst (All (IsWithin MOST_TARGET_TERM)) (sym c.in_ok-push-2.ensures.items) (All-push (IsWithin MOST_TARGET_TERM) c.loop-f.terms.items (to_z w64 (of_z w64 c.last_term.result)) c.loop-f.invariant.within (subst (IsWithin MOST_TARGET_TERM) (sym is) c.last_term.ensures.within))
