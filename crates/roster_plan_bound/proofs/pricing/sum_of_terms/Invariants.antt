use Rattle.std.proofs.Common.{ℕ, ◌-◌, ◌*◌, ◌≤◌, List, ◌≤ℤ◌}
use Rattle.roster_model.specs.Rosters.{IsLegalRoster}
use Rattle.roster_cost.specs.Amounts.{IsWithin}
use Rattle.roster_bases.specs.Bases.{only}
use Rattle.roster_bases.specs.Homes.{IsHome}
use Rattle.roster_plan_bound.specs.declared.parts.TheConstants.{MOST_PLAN_PRICE}
use Rattle.roster_plan_bound.specs.Reduced.{shares_behind}
use Rattle.roster_plan_bound.proofs.pricing.sum_of_terms.Given as goal

-- the last pairings so far
abbrev pub invariant-loop-back : goal.invariant-loop-back
invariant-loop-back l = record {
  few : l.back ≤ l.count;
  below : (places : List ℕ) → IsLegalRoster l.problem places → IsHome l.problem (only l.base) places
      → l.sum ≤ℤ shares_behind l.problem l.prices (l.count - l.back) places;
  within : IsWithin (l.back * MOST_PLAN_PRICE) l.sum;
}
