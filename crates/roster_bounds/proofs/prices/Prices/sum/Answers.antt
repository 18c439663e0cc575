use Rattle.std.proofs.Common.{◌+◌, ◌<◌, length, ap, ◌∙◌, arith}
use Rattle.std.proofs.lemmas.Int.{ints}
use Rattle.roster_model.specs.Costs.{total}
use Rattle.roster_model.proofs.CostLemmas.{total-nil, total-cons}
use Rattle.roster_model.proofs.SetLemmas.{All-is_among}
use Rattle.roster_values.specs.Set.{places_from}
use Rattle.roster_bounds.specs.Chosen.{price_at}
use Rattle.roster_bounds.proofs.prices.Prices.sum.Goals as goal

pub at-sum-requires : goal.at-sum-requires
at-sum-requires c =
    All-is_among
    (λ p. p < length c.args.self.now) c.args.set.now c.in-Some.p c.requires c.in-Some.ensures.place.2

pub loop-p-preserved : goal.loop-p-preserved
loop-p-preserved c =
    let price = price_at c.args.self.now in
    let p = c.in-Some.p in
    let next =
    ap (total price) c.in-Some.ensures.rest ∙ total-cons price p (places_from (p + 1) c.args.set.now) in
    let few = c.at-sum.ensures.bound in
    let so_far = c.loop-p.invariant.so_far in
    let low = c.loop-p.invariant.bound.0 in
    let high = c.loop-p.invariant.bound.1 in
    let after = c.in-Some.ensures.place.0 in
    let within = c.in-Some.ensures.place.1 in
    record {
      so_far =
          omega (arith, ints, so_far, next, c.at-sum.ensures.value, few.0, few.1, low, high, after, within);
      bound = (omega (arith, ints, few.0, few.1, low, high, after, within), omega (arith, ints, few.0, few.1, low, high, after, within));
      within = omega (arith, within);
    }

pub returns-clause-value : goal.returns-clause-value
returns-clause-value c =
    let price = price_at c.args.self.now in
    let none = ap (total price) c.in_default.ensures.rest ∙ total-nil price in
    omega (arith, ints, c.loop-p.invariant.so_far, none, ap (total price) c.in_default.ensures.whole)
