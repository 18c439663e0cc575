use Rattle.std.proofs.Common.{◌≡◌, ℕ, ◌+◌, ◌<◌, ◌≤◌, Some}
use Rattle.std.specs.Prelude.{slice_get}
use Rattle.roster_model.specs.records.Duty.{Duty}
use Rattle.roster_legal.proofs.rules.overlap.no_overlap.Given as goal

-- of the neighbours so far one ends before the next begins
abbrev pub invariant-loop-i : goal.invariant-loop-i
invariant-loop-i l =
    (j : ℕ) (a b : Duty) → j + 1 < l.i → slice_get l.list j ≡ Some a → slice_get l.list (j + 1) ≡ Some b → a.release ≤ b.report
