use Rattle.std.proofs.Common.{◌≡◌, w64, to_z, of_z, FitsSigned, rules, arith, ◌∙◌, subst}
use Rattle.std.proofs.lemmas.Int.{to_z-of_z}
use Rattle.roster_plan_bound.specs.declared.parts.TheConstants.{MOST_SHORT}
use Rattle.roster_plan_bound.specs.Prospects.{term_of}
use Rattle.roster_plan_bound.proofs.ProductLemmas.{told_in}
use Rattle.roster_plan_bound.proofs.TargetLemmas.{term_is, weight_told}
use Rattle.roster_plan_bound.proofs.prospect.Prospect.term.Goals as goal

pub returns : goal.returns
returns c =
    let inner = c.self.inside in
    let is = c.self.invariant in
    let weight = weight_told inner.problem.now inner.weight is.is_weight c.is_sound.ensures.sound.weight in
    let short = told_in MOST_SHORT inner.short is.small (omega arith) ∙ is.is_short in
    let term = term_is inner.problem.now inner.person c.args.flight (to_z w64 (of_z w64 inner.weight)) (to_z w64 (of_z w64 inner.short)) weight short in
    let fits : FitsSigned w64 c.missed_more.result = search rules in
    subst (λ v. to_z w64 (of_z w64 c.missed_more.result) ≡ term_of v.problem v.person c.args.flight) c.self.view_is
    (to_z-of_z w64 c.missed_more.result fits ∙ c.missed_more.ensures ∙ term)
