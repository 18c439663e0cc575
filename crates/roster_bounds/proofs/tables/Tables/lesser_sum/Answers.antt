use Rattle.std.proofs.Common.{◌≡◌, ◌+◌, suc, ℕ, ℤ, ap, ◌∙◌, sym, arith}
use Rattle.std.specs.List.{range_with_len}
use Rattle.std.proofs.lemmas.Int.{ints}
use Rattle.roster_model.specs.Costs.{total}
use Rattle.roster_model.proofs.CostLemmas.{total-nil}
use Rattle.roster_bounds.specs.Chosen.{lesser_at}
use Rattle.roster_bounds.proofs.Summed.{total-range_more}
use Rattle.roster_bounds.proofs.tables.Tables.lesser_sum.Goals as goal

pub loop-p-init : goal.loop-p-init
loop-p-init c = record {
  value = sym (total-nil (lesser_at c.args.self.now.problem c.args.self.now.prices));
  fits = (omega (arith, ints), omega (arith, ints));
}

pub loop-p-preserved : goal.loop-p-preserved
loop-p-preserved c =
    let p = c.loop-p.p in
    let f : ℕ → ℤ = lesser_at c.args.self.now.problem c.args.self.now.prices in
    let few = c.penalty_or_price-sum.ensures.fits in
    let low = c.loop-p.invariant.fits.0 in
    let high = c.loop-p.invariant.fits.1 in
    let so_far = c.loop-p.invariant.value in
    let next : p + 1 ≡ suc p = omega arith in
    let all = ap (λ n. total f (range_with_len 0 n)) next ∙ total-range_more f 0 p p (omega arith) in
    record {
      value = omega (arith, ints, so_far, all, c.penalty_or_price-sum.ensures.value, few.0, few.1, low, high);
      fits = (omega (arith, ints, few.0, few.1, low, high), omega (arith, ints, few.0, few.1, low, high));
    }
