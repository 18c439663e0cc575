use Rattle.std.proofs.Common.{◌≡◌, length, ℤ, ◌+ℤ◌, ◌≤ℤ◌, arith}
use Rattle.std.proofs.lemmas.Int.{ints}
use Rattle.std.specs.List.{range_with_len}
use Rattle.roster_model.specs.Costs.{cost_of, total}
use Rattle.roster_model.specs.Places.{set_of}
use Rattle.roster_cost.specs.Priced.{penalties_and_prices, reduced_cost}
use Rattle.roster_bounds.specs.Chosen.{price_at}
use Rattle.roster_bounds.proofs.PricedLines.{same_word64}
use Rattle.roster_bounds.proofs.node.Node.bound.Goals as goal

pub returns : goal.returns
returns c places of =
    let node = c.args.self.now in
    let tables = node.tables in
    let price = price_at tables.prices in
    let lines : ℤ =
    total (λ k. reduced_cost tables.problem price k (set_of k places))
    (range_with_len 0 (length tables.problem.persons)) in
    let states : ℤ =
    penalties_and_prices price (length tables.problem.persons) 0 tables.problem.pairings places in
    let law : cost_of tables.problem places ≡ lines +ℤ states =
    c.priced_shares_add_up.ensures tables.problem price places of.legal.covers of.legal.numbers in
    let first : c.persons_bound.result ≤ℤ lines = c.persons_bound.ensures.below places of in
    let second : c.pairings_bound.result ≤ℤ states = c.pairings_bound.ensures.below places of in
    let low = c.persons_bound.ensures.fits.least in
    let high = c.persons_bound.ensures.fits.most in
    let least = c.pairings_bound.ensures.fits.0 in
    let most = c.pairings_bound.ensures.fits.1 in
    let word = same_word64 c.word_at_most.result c.word_at_most.type_inv in
    let below = c.word_at_most.ensures in
    omega (arith, ints, law, first, second, word, below, c.from.ensures, low, high, least, most)
