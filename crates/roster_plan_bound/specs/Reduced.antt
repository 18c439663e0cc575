-- Reduced costs: what the sets of a person cost beyond the prices of their pairings, in parts of a cost unit.
use Rattle.std.specs.Prelude.{◌≡◌, ℕ, ◌-◌, ◌*◌, List, [], drop, length, slice_get, slice_index_or, true, Some, ℤ, pos, ◌+ℤ◌, ◌-ℤ◌, ◌*ℤ◌, ◌≤ℤ◌, All}
use Rattle.std.specs.List.{range_with_len}
use Rattle.roster_model.specs.records.Pairing.{Pairing}
use Rattle.roster_model.specs.Costs.{line_cost, open_penalties, total}
use Rattle.roster_model.specs.Lines.{IsLine}
use Rattle.roster_model.specs.Places.{open_number, set_of}
use Rattle.roster_model.specs.Problem.{Problem}
use Rattle.roster_cost.specs.Amounts.{IsWithin}
use Rattle.roster_cost.specs.Priced.{penalties_and_prices}
use Rattle.roster_bases.specs.Bases.{base_of_pairing, only}
use Rattle.roster_plan_bound.specs.declared.parts.TheConstants.{MOST_LEAST, MOST_PLAN_PRICE, PARTS}

-- the price of the pairing at place p, or nothing past the last
abbrev pub price_at : List ℤ → ℕ → ℤ
price_at prices p = slice_index_or prices p (pos 0)

-- one price for each pairing, none beyond the limit
pub record ArePrices (problem : Problem) (prices : List ℤ) : Type 0 where
  pub covers : length prices ≡ length problem.pairings
  pub within : All (IsWithin MOST_PLAN_PRICE) prices

-- what a set of person k costs more than the empty one, less the prices of its pairings
abbrev pub reduced : Problem → List ℤ → ℕ → List ℕ → ℤ
reduced problem prices k set =
    (pos PARTS *ℤ (line_cost problem k set -ℤ line_cost problem k [])) -ℤ total (price_at prices) set

-- no line of person k has a lower reduced cost
pub record IsLeastOf (problem : Problem) (prices : List ℤ) (k : ℕ) (least : ℤ) : Type 0 where
  pub below : (set : List ℕ) → IsLine problem k set → least ≤ℤ reduced problem prices k set
  pub within : IsWithin MOST_LEAST least

-- the reduced costs of the lines of the first persons of a roster, so many of them
abbrev pub reduced_costs : Problem → List ℤ → ℕ → List ℕ → ℤ
reduced_costs problem prices count places =
    total (λ k. reduced problem prices k (set_of k places)) (range_with_len 0 count)

-- What the pairings from p on bring to a roster beside reduced costs: the penalty of each that is left open,
-- and the price of each other.
abbrev pub shares_behind : Problem → List ℤ → ℕ → List ℕ → ℤ
shares_behind problem prices p places =
    penalties_and_prices (price_at prices) (open_number problem) p (drop p problem.pairings) (drop p places)
    +ℤ pos ((PARTS - 1) * open_penalties (open_number problem) (drop p problem.pairings) (drop p places))

-- No more than the penalty of the pairing at place p, nor than its price, if it is of the base. One of another
-- base has no price in a roster of the base: nobody flies it.
pub record IsTermOf (problem : Problem) (base p : ℕ) (price term : ℤ) : Type 0 where
  pub flown : only base (base_of_pairing problem p) ≡ true → term ≤ℤ price
  pub unflown : (pairing : Pairing) → slice_get problem.pairings p ≡ Some pairing
      → term ≤ℤ pos (PARTS * pairing.penalty)
