use Rattle.std.proofs.Common.{ℕ, List, ap, ap₂, ◌∙◌, w64, subst, arith}
use Rattle.std.proofs.lemmas.Int.{ints, to_z-of_z}
use Rattle.roster_search_regions.specs.Regions.{IsIn}
use Rattle.roster_search_regions.specs.Terms.{paid_in}
use Rattle.roster_search_fixing.specs.Bounds.{bound_of, AreTerms}
use Rattle.roster_search_fixing.proofs.BoundLemmas.{all_above, slack_is, IsPriced}
use Rattle.roster_search_fixing.proofs.tightening.bounds_of.Goals as goal

pub returns-then-limit-bound : goal.returns-then-limit-bound
returns-then-limit-bound c =
    let problem = c.args.problem.now in
    let region = c.args.region.now in
    let paid = to_z-of_z w64 c.args.paid c.ranges.paid in
    let law : (places : List ℕ) → IsIn problem region places → IsPriced problem places = λ places there y. c.priced_shares_add_up.ensures problem y places there.legal.covers there.legal.numbers in
    let both =
    c.sum_of_both-both.ensures.value ∙ ap₂ bound_of c.deref.ensures.value c.deref-2.ensures.value in
    let more = c.paid_for_open.ensures.value ∙ ap (paid_in region) paid in
    let most = to_z-of_z w64 c.args.limit c.ranges.limit in
    let terms = subst (λ z. AreTerms problem region c.args.prices.now z c.in_ok-terms.terms.items) paid c.in_ok-terms.ensures.terms in
    all_above problem region c.args.prices.now c.args.paid c.in_ok-values.values.items c.in_ok-terms.terms.items c.args.most c.args.limit c.requires.region c.in_ok-values.ensures.least terms law c.requires.limit
    (omega (arith, ints, most, c.if-limit-bound.true, both, more, c.sum_of_both-both.ensures.bound.0, c.sum_of_both-both.ensures.bound.1, c.paid_for_open.ensures.bound.0, c.paid_for_open.ensures.bound.1))

pub returns : goal.returns
returns c =
    let problem = c.args.problem.now in
    let region = c.args.region.now in
    let paid = to_z-of_z w64 c.args.paid c.ranges.paid in
    let law : (places : List ℕ) → IsIn problem region places → IsPriced problem places = λ places there y. c.priced_shares_add_up.ensures problem y places there.legal.covers there.legal.numbers in
    let both =
    c.sum_of_both-both.ensures.value ∙ ap₂ bound_of c.deref.ensures.value c.deref-2.ensures.value in
    let more = c.paid_for_open.ensures.value ∙ ap (paid_in region) paid in
    let most = to_z-of_z w64 c.args.limit c.ranges.limit in
    let terms = subst (λ z. AreTerms problem region c.args.prices.now z c.in_ok-terms.terms.items) paid c.in_ok-terms.ensures.terms in
    record {
      persons = c.in_ok-values.ensures.least.covers;
      pairings = c.in_ok-terms.ensures.terms.covers;
      near = record {
        values = c.in_ok-values.ensures.within;
        terms = c.in_ok-terms.ensures.within;
        slack = (omega (arith, ints, most, c.requires.near.0, c.requires.near.1, c.sum_of_both-both.ensures.bound.0, c.sum_of_both-both.ensures.bound.1, c.paid_for_open.ensures.bound.0, c.paid_for_open.ensures.bound.1), omega (arith, ints, most, c.requires.near.0, c.requires.near.1, c.sum_of_both-both.ensures.bound.0, c.sum_of_both-both.ensures.bound.1, c.paid_for_open.ensures.bound.0, c.paid_for_open.ensures.bound.1));
      };
      is_slack = slack_is problem region c.args.prices.now c.args.paid c.in_ok-values.values.items c.in_ok-terms.terms.items c.args.most c.args.limit _ c.requires.region c.in_ok-values.ensures.least terms law c.requires.limit
          (omega (arith, ints, most, both, more, c.requires.near.0, c.requires.near.1, c.sum_of_both-both.ensures.bound.0, c.sum_of_both-both.ensures.bound.1, c.paid_for_open.ensures.bound.0, c.paid_for_open.ensures.bound.1));
    }
