use Rattle.std.proofs.Common.{◌≡◌, ℕ, length, Some}
use Rattle.std.specs.Prelude.{slice_get}
use Rattle.roster_plan_bound.specs.Loads.{load_at}
use Rattle.roster_plan_bound.proofs.loads.loads_at.Given as goal

-- the pairings so far
abbrev pub invariant-loop-p : goal.invariant-loop-p
invariant-loop-p l = record {
  long : length l.loads.items ≡ l.p;
  each : (q load : ℕ) → slice_get l.loads.items q ≡ Some load → load ≡ load_at l.problem l.k l.at q;
}
