use Rattle.std.proofs.Common.{◌≡◌, ◌<◌, ◌≤◌, ℕ, false, Some, slice_get}
use Rattle.roster_model.specs.records.Duty.{Duty}
use Rattle.roster_problem.specs.View.{holder_of}
use Rattle.roster_desk_chart.specs.Bands.{is_one}
use Rattle.roster_desk_chart.proofs.bands.name_end.Given as goal

-- no report of something else so far comes before the end
abbrev pub invariant-loop-j : goal.invariant-loop-j
invariant-loop-j l =
    (j : ℕ) → j < l.j → (duty : Duty) → slice_get l.list j ≡ Some duty → l.i < j
    → is_one (holder_of l.own) duty.holder ≡ false → l.end ≤ duty.report
