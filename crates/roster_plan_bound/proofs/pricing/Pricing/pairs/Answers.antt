use Rattle.std.proofs.Common.{◌<◌, length, get_or, subst, ap, arith}
use Rattle.std.proofs.lemmas.Option.{slice_get-get_or}
use Rattle.roster_lines.specs.declared.pairs.Pairs.{Pairs}
use Rattle.roster_lines.specs.Listing.{ArePairs}
use Rattle.roster_plan_bound.proofs.pricing.Pricing.pairs.Goals as goal

pub returns : goal.returns
returns c =
    let long = c.self.invariant.judged.long in
    let same = ap (λ p. length p.persons) c.self.view_is in
    let inside : c.args.k < length c.self.inside.pairs.now = omega (arith, long, c.requires, same) in
    let pairs : Pairs = get_or c.self.inside.pairs.now c.args.k c.index-self-k.result in
    subst (λ p. ArePairs p c.args.k pairs) c.self.view_is (c.self.invariant.judged.each c.args.k pairs (slice_get-get_or c.self.inside.pairs.now c.args.k c.index-self-k.result inside))
