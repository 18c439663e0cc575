use Rattle.std.proofs.Common.{◌≡◌, ℤ, ap, ◌∙◌, subst, sym, w64, to_z, of_z, FitsSigned, rules}
use Rattle.std.proofs.lemmas.Int.{to_z-of_z}
use Rattle.roster_bases.specs.Bases.{only}
use Rattle.roster_bases.specs.Homes.{IsHomeBound}
use Rattle.roster_plan.proofs.PartLemmas.{best_of_found}
use Rattle.roster_plan.proofs.ExactLemmas.{best_is_home_bound}
use Rattle.roster_plan.proofs.parts.BasePlan.best.Goals as goal

pub returns-clause-part : goal.returns-clause-part
returns-clause-part c =
    let problem = c.args.problem.now in
    let own = c.in_ok-own.own in
    let cost : ℤ = c.own.inside.cost in
    let fits : FitsSigned w64 cost = search rules in
    let told : to_z w64 (of_z w64 cost) ≡ own.cost =
    to_z-of_z w64 cost fits ∙ ap (λ key. key.cost) c.own.view_is in
    let best = best_of_found problem c.args.base own c.args.found.now c.requires.best c.if-comes_before.ensures.value in
    record {
      held = c.in_ok-own.ensures.held;
      home = c.in_ok-own.ensures.home;
      bounded =
          subst (IsHomeBound problem (only c.args.base)) (sym told)
          (best_is_home_bound problem c.args.base own best);
      best = λ _. best;
    }
