use Rattle.std.proofs.Common.{◌≡◌, ◌<◌, ℕ, length, get_or, pos}
use Rattle.std.specs.Prelude.{All, ◌≤ℤ◌}
use Rattle.roster_cost.specs.Amounts.{IsWithin}
use Rattle.roster_search_regions.specs.declared.choice.TheConstants.{MOST_VALUE}
use Rattle.roster_search_regions.specs.Prices.{value_of}
use Rattle.roster_search_regions.specs.Regions.{lines_of}
use Rattle.roster_search_fixing.proofs.bounding.least_values.Given as goal

-- those of the persons so far
abbrev pub invariant-loop-k : goal.invariant-loop-k
invariant-loop-k l = record {
  covers : length l.values.items ≡ l.k;
  least : (j : ℕ) → j < l.k
      → All (λ line. get_or l.values.items j (pos 0) ≤ℤ value_of l.prices line) (lines_of l.region j);
  within : All (IsWithin MOST_VALUE) l.values.items;
}
