use Rattle.std.proofs.Common.{◌*◌, drop, ℕ, List, ◌+ℤ◌}
use Rattle.std.specs.Prelude.{◌≤ℤ◌, length}
use Rattle.roster_cost.specs.Amounts.{IsWithin}
use Rattle.roster_cost.specs.Priced.{penalties_and_prices}
use Rattle.roster_bounds.specs.declared.prices.TheConstants.{MOST_PRICE}
use Rattle.roster_bounds.specs.Chosen.{price_at, IsOfNode}
use Rattle.roster_bounds.proofs.node.Node.pairings_bound.Given as goal

-- the pairings so far, and what is left
abbrev pub invariant-loop-p : goal.invariant-loop-p
invariant-loop-p l = record {
  below : (places : List ℕ) → IsOfNode l.self places
      → (l.sum +ℤ penalties_and_prices (price_at l.self.tables.prices) (length l.self.tables.problem.persons) l.p (drop l.p l.self.tables.problem.pairings) (drop l.p places))
      ≤ℤ penalties_and_prices (price_at l.self.tables.prices) (length l.self.tables.problem.persons) 0 l.self.tables.problem.pairings places;
  fits : IsWithin (l.p * MOST_PRICE) l.sum;
}
