use Rattle.std.proofs.Common.{◌≡◌, ℕ, [], ◌∷◌, length, Some}
use Rattle.std.specs.Prelude.{slice_get}
use Rattle.roster_plan_bound.specs.declared.days_off.DaysOff.{DaysOff}
use Rattle.roster_plan_bound.specs.declared.span.Span.{Span}
use Rattle.roster_plan_bound.specs.DaysOffs.{IsOffFrom}
use Rattle.roster_plan_bound.proofs.days_off.offs_of.Given as goal

-- the days off behind the pairings so far
abbrev pub invariant-loop-p : goal.invariant-loop-p
invariant-loop-p l = record {
  covers : length l.offs.items ≡ l.p;
  each : (q : ℕ) (off : DaysOff) → slice_get l.offs.items q ≡ Some off
      → (span : Span) → slice_get l.spans q ≡ Some span → IsOffFrom l.problem l.k (q ∷ []) span.report off;
}
