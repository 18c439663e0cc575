use Rattle.std.proofs.Common.{◌≡◌, ℕ, ◌<◌, length, get_or, pos, ◌+ℤ◌, ◌*ℤ◌}
use Rattle.std.specs.Prelude.{All}
use Rattle.roster_cost.specs.Amounts.{IsWithin}
use Rattle.roster_plan_bound.specs.declared.parts.TheConstants.{MOST_LADEN}
use Rattle.roster_plan_bound.specs.Chains.{value_at}
use Rattle.roster_plan_bound.proofs.tolls.laden_values.Given as goal

-- the pairings so far
abbrev pub invariant-loop-p : goal.invariant-loop-p
invariant-loop-p l = record {
  long : length l.values.items ≡ l.p;
  each : (q : ℕ) → q < l.p
      → value_at l.values.items q ≡ value_at l.units q +ℤ (l.toll *ℤ pos (get_or l.loads q 0));
  within : All (IsWithin MOST_LADEN) l.values.items;
}
