use Rattle.std.proofs.Common.{◌≡◌, ℕ, ◌+◌, ◌-◌, ◌*◌, ◌<◌, true, List, length, Some, ℤ, ◌+ℤ◌, ◌≤ℤ◌}
use Rattle.std.specs.Prelude.{All, slice_get, slice_index}
use Rattle.roster_model.specs.declared.limits.TheConstants.{MOST_PAIRINGS}
use Rattle.roster_model.specs.Rules.{is_among}
use Rattle.roster_cost.specs.Amounts.{IsWithin}
use Rattle.roster_plan_bound.specs.declared.parts.TheConstants.{MOST_TARGET_TERM, MOST_CHAIN_VALUE}
use Rattle.roster_plan_bound.specs.Chains.{next_state, value_at}
use Rattle.roster_plan_bound.proofs.rows.row_behind.Given as goal

-- the row is no more than the tail, and than what the pairings so far lead to
abbrev pub invariant-loop-q : goal.invariant-loop-q
invariant-loop-q l = record {
  covers : length l.row ≡ length l.chains.network.now.terms.items;
  kept : (f : ℕ) → f < length l.chains.network.now.terms.items → value_at l.row f ≤ℤ value_at l.tail f;
  led : (q : ℕ) (row : List ℤ) → q < l.from → is_among l.first q ≡ true
      → slice_get l.rows (length l.chains.problem.now.pairings - 1 - q) ≡ Some row
      → (f : ℕ) → f < length l.chains.network.now.terms.items → value_at l.row f ≤ℤ (value_at l.chains.values.now q +ℤ value_at row (next_state (length l.chains.network.now.terms.items) f (slice_index l.chains.network.now.steps.items q)));
  within : All (IsWithin (MOST_TARGET_TERM + (length l.rows + 1) * MOST_CHAIN_VALUE)) l.row;
}

abbrev pub decreases-loop-q : goal.decreases-loop-q
decreases-loop-q l = MOST_PAIRINGS - l.from
