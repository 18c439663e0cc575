use Rattle.std.proofs.Common.{subst}
use Rattle.std.specs.Prelude.{IfOk, IsSomeAnd}
use Rattle.roster_model.specs.Rosters.{IsLegalRoster}
use Rattle.roster_plan.proofs.PlanLemmas.{held}
use Rattle.roster_plan.proofs.runs.roster_of.Goals as goal

pub returns : goal.returns
returns c =
    let problem = c.args.problem.now in
    held problem c.in_ok-places.places.items c.costed.result c.costed.ensures
    (subst (λ told. IfOk told (λ places. IsLegalRoster problem places.items)) c.in_ok-places.was
    (subst (λ found. IsSomeAnd found (λ told. IfOk told (λ places. IsLegalRoster problem places.items))) c.unwrap.ensures c.requires))
