use Rattle.std.proofs.Common.{◌≡◌, ◌+◌, ◌+ℤ◌, ◌≤◌, suc, ℕ, ℤ, pos, to_z, ap, ◌∙◌, sym, subst, arith}
use Rattle.std.specs.Int.{w128}
use Rattle.std.specs.List.{range_with_len}
use Rattle.std.specs.Prelude.{slice_index_or}
use Rattle.std.proofs.lemmas.Int.{ints}
use Rattle.roster_model.specs.Costs.{total}
use Rattle.roster_model.specs.declared.limits.TheConstants.{MOST_PERSONS}
use Rattle.roster_model.proofs.CostLemmas.{total-nil}
use Rattle.roster_bounds.specs.Amounts.{AreReduced}
use Rattle.roster_bounds.proofs.PricedLines.{same_more, AreReduced-more}
use Rattle.roster_bounds.proofs.Summed.{total-range_more}
use Rattle.roster_bounds.proofs.reduced.sum_of.Goals as goal

pub loop-cost-init : goal.loop-cost-init
loop-cost-init c = record {
  value = sym (total-nil (λ k. slice_index_or c.args.costs.now k (pos 0)));
  fits = record { least = omega (arith, ints); most = omega (arith, ints) };
}

pub loop-cost-preserved : goal.loop-cost-preserved
loop-cost-preserved c =
    let k = c.loop-cost.cost-index in
    let f : ℕ → ℤ = λ j. slice_index_or c.args.costs.now j (pos 0) in
    let sum : ℤ = to_z w128 c.loop-cost.sum-bits in
    let one = c.requires.fits k c.loop-cost-test.true in
    let few : k ≤ MOST_PERSONS = omega (arith, c.loop-cost-test.true, c.requires.few) in
    let told = same_more sum (f k) k few c.loop-cost.invariant.fits one in
    let next : k + 1 ≡ suc k = omega arith in
    record {
      value =
          told
          ∙ ap (λ (z : ℤ). z +ℤ f k) c.loop-cost.invariant.value
          ∙ sym (total-range_more f 0 k k (omega arith))
          ∙ ap (λ n. total f (range_with_len 0 n)) (sym next);
      fits =
          subst (AreReduced (k + 1)) (sym told) (AreReduced-more sum (f k) k c.loop-cost.invariant.fits one);
    }
