use Rattle.std.proofs.Common.{◌<◌, length, ap, sym, ◌∙◌, subst}
use Rattle.std.specs.Prelude.{All}
use Rattle.roster_model.specs.Costs.{total}
use Rattle.roster_bounds.specs.Amounts.{AreReduced}
use Rattle.roster_bounds.specs.Chosen.{price_at}
use Rattle.roster_bounds.proofs.PricedLines.{line_is, line_set-at, same_word64, same_word128}
use Rattle.roster_bounds.proofs.reduced.reduced.Goals as goal

pub sum-requires : goal.sum-requires
sum-requires c =
    let table = c.args.table.now in
    let k = c.args.k in
    let line = line_is c.args.problem.now table k c.args.i c.requires.priced.lines c.requires.person c.requires.line in
    let here = line_set-at table k c.args.i c.set.result c.set.ensures in
    subst (λ n. All (λ p. p < n) c.set.result) (sym c.requires.priced.covers)
    (subst (All (λ p. p < length c.args.problem.now.pairings)) here line.places)

pub reduced_by-requires-clause-sum : goal.reduced_by-requires-clause-sum
reduced_by-requires-clause-sum c =
    same_word64 c.sum.result c.sum.type_inv ∙ c.sum.ensures.value ∙ ap (total (price_at c.args.prices.now)) (sym (line_set-at c.args.table.now c.args.k c.args.i c.set.result c.set.ensures))

pub returns : goal.returns
returns c = record {
  value = same_word128 c.reduced_by.result c.reduced_by.type_inv ∙ c.reduced_by.ensures.value;
  bound =
      subst (AreReduced 1)
      (sym (same_word128 c.reduced_by.result c.reduced_by.type_inv)) c.reduced_by.ensures.bound;
}
