use Rattle.std.proofs.Common.{arith}
use Rattle.std.proofs.lemmas.Int.{ints}
use Rattle.roster_bounds.proofs.PricedLines.{prices_of_line}
use Rattle.roster_bounds.proofs.reduced.least_of_any.Goals as goal

pub returns-clause-least : goal.returns-clause-least
returns-clause-least c k set line =
    let saved = c.saved_at_most.ensures k set line.ascending line.places in
    let within = prices_of_line c.args.problem.now c.args.prices.now k set c.pairings.ensures.sound c.len.ensures.within line in
    omega (arith, ints, saved, within.0, within.1)
