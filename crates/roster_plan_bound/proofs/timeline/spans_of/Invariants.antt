use Rattle.std.proofs.Common.{◌≡◌, ℕ, length, Some}
use Rattle.std.specs.Prelude.{slice_get}
use Rattle.roster_plan_bound.specs.declared.span.Span.{Span}
use Rattle.roster_plan_bound.specs.Spans.{IsSpan}
use Rattle.roster_plan_bound.proofs.timeline.spans_of.Given as goal

-- the spans so far
abbrev pub invariant-loop-p : goal.invariant-loop-p
invariant-loop-p l = record {
  long : length l.spans.items ≡ l.p;
  each : (q : ℕ) (span : Span) → slice_get l.spans.items q ≡ Some span → IsSpan l.problem q span;
}
