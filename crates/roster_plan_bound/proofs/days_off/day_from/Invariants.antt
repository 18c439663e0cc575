use Rattle.std.proofs.Common.{ℕ, ◌+◌, ◌<◌, ◌≤◌}
use Rattle.std.specs.Prelude.{slice_index}
use Rattle.roster_model.specs.declared.limits.TheConstants.{DAYS_BEFORE}
use Rattle.roster_plan_bound.proofs.days_off.day_from.Given as goal

-- the days so far begin too early
abbrev pub invariant-loop-i : goal.invariant-loop-i
invariant-loop-i l =
    (i : ℕ) → i < l.days.month_days → l.instant ≤ slice_index l.days.mid (DAYS_BEFORE + i) → l.i ≤ i
