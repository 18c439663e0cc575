use Rattle.std.proofs.Common.{arith}
use Rattle.std.proofs.lemmas.Int.{ints}
use Rattle.roster_search_regions.specs.declared.choice.TheConstants.{MOST_VALUE}
use Rattle.roster_search_regions.specs.declared.terms.TheConstants.{MOST_TERM}
use Rattle.roster_search_fixing.proofs.Totals.{total-within}
use Rattle.roster_search_fixing.proofs.bounding.sum_of_both.Goals as goal

pub overflow_add-result : goal.overflow_add-result
overflow_add-result c =
    let values = total-within c.args.values.now MOST_VALUE c.requires.values in
    let terms = total-within c.args.terms.now MOST_TERM c.requires.terms in
    omega (arith, ints, values.0, values.1, terms.0, terms.1, c.sum_of.ensures, c.sum_of-2.ensures, c.requires.persons, c.requires.pairings)

pub returns-clause-value : goal.returns-clause-value
returns-clause-value c =
    let values = total-within c.args.values.now MOST_VALUE c.requires.values in
    let terms = total-within c.args.terms.now MOST_TERM c.requires.terms in
    omega (arith, ints, values.0, values.1, terms.0, terms.1, c.sum_of.ensures, c.sum_of-2.ensures, c.requires.persons, c.requires.pairings)

pub returns-clause-bound : goal.returns-clause-bound
returns-clause-bound c =
    let values = total-within c.args.values.now MOST_VALUE c.requires.values in
    let terms = total-within c.args.terms.now MOST_TERM c.requires.terms in
    (omega (arith, ints, values.0, values.1, terms.0, terms.1, c.sum_of.ensures, c.sum_of-2.ensures, c.requires.persons, c.requires.pairings), omega (arith, ints, values.0, values.1, terms.0, terms.1, c.sum_of.ensures, c.sum_of-2.ensures, c.requires.persons, c.requires.pairings))
