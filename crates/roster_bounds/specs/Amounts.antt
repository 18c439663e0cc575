-- How far prices and reduced costs go.
use Rattle.std.specs.Prelude.{ℕ, ◌+◌, ◌*◌, ◌^◌, ℤ, pos, neg_ℤ, ◌≤ℤ◌}
use Rattle.roster_model.specs.declared.limits.TheConstants.{MOST_PAIRINGS}
use Rattle.roster_cost.specs.Amounts.{most_units}
use Rattle.roster_bounds.specs.declared.prices.TheConstants.{MOST_PRICE}

-- the most that the prices of a set add up to
abbrev pub most_prices : ℕ
most_prices = MOST_PAIRINGS * MOST_PRICE

-- so many reduced costs: a line saves its units and the prices of its pairings at most, and what it costs
-- fits a word of 64 bits
pub record AreReduced (count : ℕ) (z : ℤ) : Type 0 where
  pub least : neg_ℤ (pos (count * (most_units + most_prices))) ≤ℤ z
  pub most : z ≤ℤ pos (count * 2 ^ 64)
