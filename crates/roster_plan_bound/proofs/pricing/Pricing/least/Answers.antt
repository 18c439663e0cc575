use Rattle.std.proofs.Common.{◌<◌, length, Some, sym, ap, ◌∙◌, arith}
use Rattle.std.proofs.lemmas.Option.{slice_get-get_or}
use Rattle.roster_plan_bound.proofs.pricing.Pricing.least.Goals as goal

pub least_of_chains-requires-clause-network : goal.least_of_chains-requires-clause-network
least_of_chains-requires-clause-network c =
    let covers = c.self.invariant.are.covers in
    let person = c.requires.person in
    let same = ap (λ p. length p.persons) c.self.view_is in
    let inside : c.args.k < length c.self.inside.networks.items = omega (arith, covers, person, same) in
    c.self.invariant.are.each c.args.k c.index.result.now (slice_get-get_or c.self.inside.networks.items c.args.k c.index.result.now inside ∙ ap Some (sym c.index.ensures))

pub least_set-requires-clause-timeline : goal.least_set-requires-clause-timeline
least_set-requires-clause-timeline c =
    let covers = c.self.invariant.timed.covers in
    let person = c.requires.person in
    let same = ap (λ p. length p.persons) c.self.view_is in
    let inside : c.args.k < length c.self.inside.timelines.items = omega (arith, covers, person, same) in
    c.self.invariant.timed.each c.args.k c.index-timeline.result.now (slice_get-get_or c.self.inside.timelines.items c.args.k c.index-timeline.result.now inside ∙ ap Some (sym c.index-timeline.ensures))
