use Rattle.std.proofs.Common.{◌≡◌, ℕ, true, length, Some}
use Rattle.std.specs.Prelude.{slice_get}
use Rattle.roster_model.specs.Rules.{is_among}
use Rattle.roster_legal.specs.declared.loads.Load.{Load}
use Rattle.roster_legal.specs.Stepping.{IsLoad}
use Rattle.roster_legal.proofs.loads.all_loads.Given as goal

-- the pairings so far
abbrev pub invariant-loop-p : goal.invariant-loop-p
invariant-loop-p l = record {
  long : length l.loads.items ≡ l.p;
  each : (q : ℕ) (load : Load) → slice_get l.loads.items q ≡ Some load → is_among l.among q ≡ true
      → IsLoad l.problem l.k q load;
}
