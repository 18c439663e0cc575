use Rattle.std.proofs.Common.{◌≡◌, ◌*◌, take}
use Rattle.roster_model.specs.Costs.{total}
use Rattle.roster_cost.specs.Amounts.{IsWithin}
use Rattle.roster_search_regions.specs.declared.choice.TheConstants.{MOST_VALUE}
use Rattle.roster_search_fixing.proofs.bounding.sum_of.Given as goal

-- the sum so far
abbrev pub invariant-loop-value : goal.invariant-loop-value
invariant-loop-value l = record {
  so_far : l.sum ≡ total (λ value. value) (take l.value-index l.values);
  bound : IsWithin (l.value-index * MOST_VALUE) l.sum;
}
