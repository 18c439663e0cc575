use Rattle.std.proofs.Common.{◌≡◌, ℕ, ◌/◌, ◌<◌, length}
use Rattle.std.specs.Prelude.{slice_index}
use Rattle.roster_plan_bound.proofs.network.steps_of.Given as goal

-- the flights so far
abbrev pub invariant-loop-flight : goal.invariant-loop-flight
invariant-loop-flight l = record {
  long : length l.steps.items ≡ l.flight-index;
  each : (p : ℕ) → p < l.flight-index → slice_index l.steps.items p ≡ slice_index l.flights p / l.step;
}
