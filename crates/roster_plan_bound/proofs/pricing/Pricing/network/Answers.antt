use Rattle.std.proofs.Common.{◌<◌, length, Some, subst, sym, ap, ◌∙◌, arith}
use Rattle.std.proofs.lemmas.Option.{slice_get-get_or}
use Rattle.roster_plan_bound.specs.Networks.{IsNetwork}
use Rattle.roster_plan_bound.proofs.pricing.Pricing.network.Goals as goal

pub returns : goal.returns
returns c =
    let covers = c.self.invariant.are.covers in
    let same = ap (λ p. length p.persons) c.self.view_is in
    let inside : c.args.k < length c.self.inside.networks.items = omega (arith, covers, c.requires, same) in
    subst (λ p. IsNetwork p c.args.k c.index.result.now) c.self.view_is (c.self.invariant.are.each c.args.k c.index.result.now (slice_get-get_or c.self.inside.networks.items c.args.k c.index.result.now inside ∙ ap Some (sym c.index.ensures)))
