use Rattle.std.proofs.Common.{◌≡◌, ◌∙◌, ap, subst, sym, ℤ, w64, to_z, of_z, FitsSigned, rules}
use Rattle.std.proofs.lemmas.Int.{to_z-of_z}
use Rattle.roster_model.specs.Settled.{IsLowerBound}
use Rattle.roster_plan.proofs.ExactLemmas.{best_is_bound}
use Rattle.roster_plan.proofs.known.best_plan.Goals as goal

pub returns-clause-known : goal.returns-clause-known
returns-clause-known c =
    let problem = c.args.problem.now in
    let cost : ℤ = c.roster.inside.cost in
    let fits : FitsSigned w64 cost = search rules in
    let told : to_z w64 (of_z w64 cost) ≡ c.args.roster.cost =
    to_z-of_z w64 cost fits ∙ ap (λ key. key.cost) c.roster.view_is in
    record {
      held = c.requires.held;
      bounded = subst (IsLowerBound problem) (sym told) (best_is_bound problem c.args.roster c.requires.best);
      best = λ _. c.requires.best;
      tight = λ _. told;
    }
