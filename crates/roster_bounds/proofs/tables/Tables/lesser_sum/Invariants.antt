use Rattle.std.proofs.Common.{◌≡◌, ◌*◌}
use Rattle.std.specs.List.{range_with_len}
use Rattle.roster_model.specs.Costs.{total}
use Rattle.roster_cost.specs.Amounts.{IsWithin}
use Rattle.roster_bounds.specs.declared.prices.TheConstants.{MOST_PRICE}
use Rattle.roster_bounds.specs.Chosen.{lesser_at}
use Rattle.roster_bounds.proofs.tables.Tables.lesser_sum.Given as goal

-- the sum so far
abbrev pub invariant-loop-p : goal.invariant-loop-p
invariant-loop-p l = record {
  value : l.sum ≡ total (lesser_at l.self.problem l.self.prices) (range_with_len 0 l.p);
  fits : IsWithin (l.p * MOST_PRICE) l.sum;
}
