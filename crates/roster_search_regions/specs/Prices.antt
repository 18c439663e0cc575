-- Dual prices of pairings, in parts of a cost unit, and sums of them on a path.
use Rattle.std.specs.Prelude.{◌≡◌, ℕ, ◌≤◌, List, length, take, slice_index_or, ℤ, pos, ◌-ℤ◌, All}
use Rattle.roster_model.specs.declared.limits.TheConstants.{MOST_PAIRINGS}
use Rattle.roster_model.specs.Costs.{total}
use Rattle.roster_cost.specs.Amounts.{IsWithin}
use Rattle.roster_search_regions.specs.declared.choice.TheConstants.{MOST_DUAL_PRICE}
use Rattle.roster_search_regions.specs.declared.sums.Sums.{Sums}
use Rattle.roster_search_regions.specs.Regions.{AllowedLine}

-- the price of the pairing at place p, or nothing past the last
abbrev pub price_at : List ℤ → ℕ → ℤ
price_at prices p = slice_index_or prices p (pos 0)

-- it isn't beyond the limit of prices
abbrev pub IsPrice : ℤ → Type 0
IsPrice amount = IsWithin MOST_DUAL_PRICE amount

-- no price is beyond its limit
abbrev pub ArePrices : List ℤ → Type 0
ArePrices prices = All (IsWithin MOST_DUAL_PRICE) prices

-- what a line costs more than the empty one, less the prices of its pairings
abbrev pub value_of : List ℤ → AllowedLine → ℤ
value_of prices line = line.extra -ℤ total (price_at prices) line.set

-- the sums of the prices along the path, from none of its pairings to all
pub record AreSums (prices : List ℤ) (sums : Sums) (path : List ℕ) : Type 0 where
  pub whole : sums.length ≡ length path
  pub few : length path ≤ MOST_PAIRINGS
  pub each : (j : ℕ) → j ≤ length path
      → slice_index_or sums.sums j (pos 0) ≡ total (price_at prices) (take j path)
