use Rattle.std.proofs.Common.{◌≡◌, ℕ, ◌+◌, ◌<◌, length, ◌+ℤ◌, ◌≤ℤ◌}
use Rattle.std.specs.Prelude.{All}
use Rattle.roster_cost.specs.Amounts.{IsWithin}
use Rattle.roster_plan_bound.specs.declared.parts.TheConstants.{MOST_CHAIN_VALUE}
use Rattle.roster_plan_bound.specs.Chains.{next_state, value_at}
use Rattle.roster_plan_bound.proofs.rows.relax.Given as goal

-- the states so far are lowered
abbrev pub invariant-loop-f : goal.invariant-loop-f
invariant-loop-f l = record {
  same : length l.row ≡ length l.fn.row;
  kept : (g : ℕ) → g < length l.fn.row → value_at l.row g ≤ℤ value_at l.fn.row g;
  through : (g : ℕ) → g < l.f
      → value_at l.row g ≤ℤ (l.value +ℤ value_at l.after (next_state (length l.fn.row) g l.step));
  within : (most : ℕ) → All (IsWithin most) l.after → All (IsWithin (most + MOST_CHAIN_VALUE)) l.fn.row
      → All (IsWithin (most + MOST_CHAIN_VALUE)) l.row;
}
