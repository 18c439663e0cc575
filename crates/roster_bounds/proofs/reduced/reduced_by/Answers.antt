use Rattle.std.proofs.Common.{ℤ, pos, neg_ℤ, ◌^◌, ◌-ℤ◌, ◌≤ℤ◌, ap₂, sym, ◌∙◌, subst}
use Rattle.roster_cost.specs.Amounts.{IsWithin, most_units}
use Rattle.roster_bounds.specs.Amounts.{AreReduced, most_prices}
use Rattle.roster_bounds.specs.Chosen.{line_set}
use Rattle.roster_bounds.proofs.PricedLines.{cost_of_line, line_is, prices_of_line, reduced_fits, same_prices, same_word64, same_word128}
use Rattle.roster_bounds.proofs.reduced.reduced_by.Goals as goal

pub returns : goal.returns
returns c =
    let problem = c.args.problem.now in
    let table = c.args.table.now in
    let k = c.args.k in
    let i = c.args.i in
    let line = line_is problem table k i c.requires.priced.lines c.requires.person c.requires.line in
    let cost = cost_of_line problem table k i c.cost.result c.requires.priced.lines c.requires.person c.cost.ensures in
    let sum = c.requires.sum in
    let saved =
    subst (λ (z : ℤ). neg_ℤ (pos most_units) ≤ℤ z) (sym cost)
    (c.saved_at_most.ensures k (line_set table k i) line.ascending line.places) in
    let within = subst (IsWithin most_prices) (sym sum) (prices_of_line problem c.args.prices.now k (line_set table k i) c.pairings.ensures.sound c.len.ensures.within line) in
    let told = c.difference.ensures.value ∙ ap₂ (λ (a b : ℤ). a -ℤ b) (same_word64 c.cost.result c.cost.type_inv) (same_prices c.args.sum within) in
    let back = same_word128 c.difference.result c.difference.type_inv in
    let low =
    reduced_fits c.cost.result c.args.sum saved
    (subst (λ (z : ℤ). z ≤ℤ pos (2 ^ 64)) told c.difference.ensures.most) within in
    record {
      value = back ∙ told ∙ ap₂ (λ (a b : ℤ). a -ℤ b) cost sum;
      bound = subst (AreReduced 1) (sym (back ∙ told)) low;
    }
