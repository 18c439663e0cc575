use Rattle.std.proofs.Common.{◌≡◌, pos}
use Rattle.std.specs.Prelude.{slice_index_or}
use Rattle.std.specs.List.{range_with_len}
use Rattle.roster_model.specs.Costs.{total}
use Rattle.roster_bounds.specs.Amounts.{AreReduced}
use Rattle.roster_bounds.proofs.reduced.sum_of.Given as goal

-- the sum so far
abbrev pub invariant-loop-cost : goal.invariant-loop-cost
invariant-loop-cost l = record {
  value : l.sum ≡ total (λ k. slice_index_or l.costs k (pos 0)) (range_with_len 0 l.cost-index);
  fits : AreReduced l.cost-index l.sum;
}
