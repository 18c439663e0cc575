use Rattle.std.proofs.Common.{◌≡◌, ℕ, length, Some}
use Rattle.std.specs.Prelude.{slice_get, IfSome, Option}
use Rattle.roster_plan_bound.specs.declared.network.Network.{Network}
use Rattle.roster_plan_bound.specs.Networks.{IsNetwork}
use Rattle.roster_plan_bound.specs.declared.timeline.Timeline.{Timeline}
use Rattle.roster_plan_bound.specs.Timelines.{IsTimeline}
use Rattle.roster_plan_bound.proofs.pricing.Pricing.new.Given as goal

-- the networks and the timelines so far
abbrev pub invariant-loop-k : goal.invariant-loop-k
invariant-loop-k l = record {
  long : length l.networks.items ≡ l.k;
  each : (k : ℕ) (network : Network) → slice_get l.networks.items k ≡ Some network
      → IsNetwork l.problem k network;
  timed : length l.timelines.items ≡ l.k;
  every : (k : ℕ) (found : Option Timeline) → slice_get l.timelines.items k ≡ Some found
      → IfSome found (IsTimeline l.problem k);
}
