use Rattle.std.proofs.Common.{rules, IfSome, Option, subst}
use Rattle.roster_model.specs.Rosters.{Key}
use Rattle.roster_model.specs.Settled.{IsHeld}
use Rattle.roster_search_regions.specs.Regions.{IsIn}
use Rattle.roster_search.proofs.exploring.shown_in.Goals as goal

pub returns-clause-found : goal.returns-clause-found
returns-clause-found g c =
    let problem = c.args.problem.now in
    record {
      held = subst (λ (found : Option Key). IfSome found (IsHeld problem)) c.in-Some-2.is c.in_ok-roster.ensures.held;
      inside = subst (λ (found : Option Key). IfSome found (λ roster. IsIn problem c.args.whole.now roster.places)) c.in-Some-2.is c.in_ok-roster.ensures.inside;
      within = search rules;
    }
