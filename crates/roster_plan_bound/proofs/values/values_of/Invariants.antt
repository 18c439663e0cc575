use Rattle.std.proofs.Common.{◌≡◌, ℕ, ◌<◌, length, pos, ◌-ℤ◌, ◌*ℤ◌}
use Rattle.std.specs.Prelude.{All}
use Rattle.roster_cost.specs.Amounts.{IsWithin}
use Rattle.roster_model.specs.Problem.{units_of}
use Rattle.roster_plan_bound.specs.declared.parts.TheConstants.{MOST_CHAIN_VALUE, PARTS}
use Rattle.roster_plan_bound.specs.Chains.{value_at}
use Rattle.roster_plan_bound.specs.Reduced.{price_at}
use Rattle.roster_plan_bound.proofs.values.values_of.Given as goal

-- the pairings so far
abbrev pub invariant-loop-p : goal.invariant-loop-p
invariant-loop-p l = record {
  long : length l.values.items ≡ l.p;
  each : (q : ℕ) → q < l.p
      → value_at l.values.items q ≡ (pos PARTS *ℤ units_of l.problem l.k q) -ℤ price_at l.prices q;
  within : All (IsWithin MOST_CHAIN_VALUE) l.values.items;
}
