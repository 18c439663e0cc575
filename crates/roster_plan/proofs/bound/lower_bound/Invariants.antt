use Rattle.std.proofs.Common.{◌+◌, ◌-◌, ◌*◌, ◌^◌, ◌≤◌, length, ◌≤ℤ◌, ◌+ℤ◌}
use Rattle.roster_model.specs.declared.limits.TheConstants.{MOST_UNITS}
use Rattle.roster_model.specs.Costs.{missed_targets}
use Rattle.roster_cost.specs.Amounts.{IsWithin}
use Rattle.roster_bases.specs.Bases.{only}
use Rattle.roster_bases.specs.Homes.{EachHomeRoster}
use Rattle.roster_plan.proofs.FloorLemmas.{cost_behind}
use Rattle.roster_plan.proofs.bound.lower_bound.Given as goal

-- no more than what the pairings from p on and missed targets cost in any legal roster of the base
abbrev pub invariant-loop-p : goal.invariant-loop-p
invariant-loop-p l = record {
  inside : l.p ≤ length l.problem.pairings;
  within : IsWithin (2 ^ 60 + (length l.problem.pairings - l.p) * MOST_UNITS) l.bound;
  below : EachHomeRoster l.problem (only l.base) (λ places.
      l.bound ≤ℤ (cost_behind l.problem l.p places +ℤ missed_targets l.problem places));
}

abbrev pub decreases-loop-p : goal.decreases-loop-p
decreases-loop-p l = l.p
