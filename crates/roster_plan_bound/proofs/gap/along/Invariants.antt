use Rattle.std.proofs.Common.{◌≡◌, ℕ, ◌-◌, ◌*◌, ◌<◌, ◌≤◌, List, ◌++◌, length, ◌+ℤ◌}
use Rattle.roster_model.specs.declared.limits.TheConstants.{MOST_PAIRINGS}
use Rattle.roster_values.specs.Set.{places_from}
use Rattle.roster_cost.specs.Amounts.{IsWithin}
use Rattle.roster_plan_bound.specs.declared.parts.TheConstants.{MOST_CHAIN_VALUE}
use Rattle.roster_plan_bound.specs.Chains.{chain_value}
use Rattle.roster_plan_bound.proofs.gap.along.Given as goal

-- what the pairings so far have brought
abbrev pub invariant-loop-q : goal.invariant-loop-q
invariant-loop-q l = record {
  few : l.from ≤ MOST_PAIRINGS;
  within : IsWithin (l.from * MOST_CHAIN_VALUE) l.value;
  inside : l.state < length l.network.terms.items;
  brought : (rest : List ℕ) → chain_value l.network l.values 0 (l.set ++ rest) ≡ l.value +ℤ chain_value l.network l.values l.state (places_from l.from l.set ++ rest);
}

abbrev pub decreases-loop-q : goal.decreases-loop-q
decreases-loop-q l = MOST_PAIRINGS - l.from
