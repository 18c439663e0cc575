use Rattle.std.proofs.Common.{◌≡◌, length, replicate, ap, ◌∙◌, rules}
use Rattle.roster_model.specs.Rosters.{key_of}
use Rattle.roster_plan.proofs.ExactLemmas.{is_best}
use Rattle.roster_plan.proofs.PlanLemmas.{chosen_held, planned}
use Rattle.roster_plan.proofs.planning.plan.Goals as goal

pub planned_from-requires-clause-held : goal.planned_from-requires-clause-held
planned_from-requires-clause-held g c = λ lifetimes outlive.
    let problem = c.args.problem.now in
    let items : c.in_ok-open.open.items ≡ replicate (length problem.pairings) (length problem.persons) =
    search rules in
    chosen_held problem c.in_ok-start.start.items c.costed.result c.costed-2.result c.earlier-known.result c.in_ok-start.ensures.legal
    c.costed.ensures (c.costed-2.ensures ∙ ap (key_of problem) items) c.earlier-known.ensures.from

pub returns-clause-plan : goal.returns-clause-plan
returns-clause-plan g c =
    let problem = c.args.problem.now in
    let items : c.in_ok-open.open.items ≡ replicate (length problem.pairings) (length problem.persons) =
    search rules in
    let planned_one = c.in_ok-planned.planned in
    planned problem c.args.given.now c.in_ok-start.start.items c.costed.result c.costed-2.result c.earlier-known.result planned_one.roster planned_one.bound
    c.in_ok-start.ensures.kept c.in_ok-planned.ensures.known.held c.in_ok-planned.ensures.known.bounded
    c.costed.ensures (c.costed-2.ensures ∙ ap (key_of problem) items)
    c.earlier-known.ensures.first c.earlier-known.ensures.second c.in_ok-planned.ensures.kept

pub returns-clause-best : goal.returns-clause-best
returns-clause-best g c = λ told. is_best c.args.problem.now c.in_ok-planned.planned.roster c.in_ok-planned.ensures.known.held (c.in_ok-planned.ensures.known.best told)
