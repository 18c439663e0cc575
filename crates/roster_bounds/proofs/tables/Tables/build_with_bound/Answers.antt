use Rattle.std.proofs.Common.{ℕ, ℤ, pos, length, List, ap, ◌∙◌, arith}
use Rattle.std.specs.List.{range_with_len}
use Rattle.std.specs.Prelude.{slice_index_or}
use Rattle.std.proofs.lemmas.Int.{ints}
use Rattle.roster_model.specs.Costs.{total}
use Rattle.roster_bounds.proofs.tables.Tables.build_with_bound.Goals as goal

pub returns-clause-bound : goal.returns-clause-bound
returns-clause-bound c =
    let bounds = c.in_ok-bounds.bounds.items in
    let persons = length c.args.problem.now.persons in
    let least : ℕ → ℤ = λ k. slice_index_or bounds k (pos 0) in
    let given =
    ap (λ (xs : List ℤ). total (λ k. slice_index_or xs k (pos 0)) (range_with_len 0 (length xs))) c.deref.ensures.value
    ∙ ap (λ n. total least (range_with_len 0 n)) c.in_ok-bounds.ensures.below.covers in
    let sum = c.sum_of-sum.ensures.value ∙ given in
    let low = c.sum_of-sum.ensures.fits.least in
    let high = c.sum_of-sum.ensures.fits.most in
    let least_more = c.lesser_sum.ensures.fits.0 in
    let most_more = c.lesser_sum.ensures.fits.1 in
    record {
      least = least;
      each = c.in_ok-bounds.ensures.least;
      sum = omega (arith, ints, sum, c.lesser_sum.ensures.value, c.from.ensures, low, high, least_more, most_more);
    }
