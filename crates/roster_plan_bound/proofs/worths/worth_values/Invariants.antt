use Rattle.std.proofs.Common.{◌≡◌, ℕ, ◌<◌, length, get_or, pos, ◌+ℤ◌, ◌*ℤ◌}
use Rattle.std.specs.Prelude.{All}
use Rattle.roster_cost.specs.Amounts.{IsWithin}
use Rattle.roster_plan_bound.specs.declared.parts.TheConstants.{MOST_STEP}
use Rattle.roster_plan_bound.specs.Chains.{value_at}
use Rattle.roster_plan_bound.proofs.worths.worth_values.Given as goal

-- the pairings so far
abbrev pub invariant-loop-p : goal.invariant-loop-p
invariant-loop-p l = record {
  long : length l.values.items ≡ l.p;
  each : (q : ℕ) → q < l.p
      → value_at l.values.items q ≡ value_at l.units q +ℤ (l.worth *ℤ pos (get_or l.flights q 0));
  within : All (IsWithin MOST_STEP) l.values.items;
}
