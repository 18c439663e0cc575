use Rattle.std.proofs.Common.{◌≡◌, ℕ, ◌+◌, ◌<◌, Some}
use Rattle.std.specs.Prelude.{slice_get}
use Rattle.roster_model.specs.records.Duty.{Duty}
use Rattle.roster_problem.specs.Duties.{picked}
use Rattle.roster_plan_bound.specs.Spans.{GoesOn}
use Rattle.roster_plan_bound.proofs.span.is_solid.Given as goal

-- the duties so far go on one after another
abbrev pub invariant-loop-i : goal.invariant-loop-i
invariant-loop-i l =
    (j : ℕ) (a b : Duty) → j + 1 < l.i → slice_get (picked l.duties l.positions) j ≡ Some a
    → slice_get (picked l.duties l.positions) (j + 1) ≡ Some b → GoesOn a.release b.report
