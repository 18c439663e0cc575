use Rattle.std.proofs.Common.{◌≡◌, ℕ, ◌<◌, Some, pos, ◌≤ℤ◌}
use Rattle.std.specs.Prelude.{slice_get}
use Rattle.roster_cost.specs.Amounts.{IsWithin}
use Rattle.roster_plan_bound.specs.declared.parts.TheConstants.{MOST_BEHIND}
use Rattle.roster_plan_bound.specs.Behinds.{IsFirstAt}
use Rattle.roster_plan_bound.proofs.behind.begun_of.Given as goal

-- no more than nothing, and than what the pairings of the ranks so far lead to
abbrev pub invariant-loop-rank : goal.invariant-loop-rank
invariant-loop-rank l = record {
  end : l.begun ≤ℤ pos 0;
  each : (s q : ℕ) → s < l.rank → slice_get l.valued.timeline.now.order.items s ≡ Some q
      → IsFirstAt l.valued.timeline.now l.valued.values.now l.behind q l.begun;
  within : IsWithin MOST_BEHIND l.begun;
}
