use Rattle.std.proofs.Common.{◌≡◌, ℕ, length, Some}
use Rattle.std.specs.Prelude.{slice_get}
use Rattle.roster_legal.specs.Stepping.{IsLoadOf}
use Rattle.roster_plan_bound.specs.declared.loads.Taken.{Taken}
use Rattle.roster_plan_bound.proofs.loads.loads_of_pairings.Given as goal

-- the pairings so far
abbrev pub invariant-loop-p : goal.invariant-loop-p
invariant-loop-p l = record {
  long : length l.each.items ≡ l.p;
  each : (q : ℕ) (taken : Taken) → slice_get l.each.items q ≡ Some taken → IsLoadOf l.problem l.k q taken.minutes.items;
}
