use Rattle.std.proofs.Common.{ℕ, ◌+◌, ◌≤◌, List}
use Rattle.roster_model.specs.declared.limits.TheConstants.{DAYS_BEFORE}
use Rattle.roster_model.specs.records.Duty.{Duty}
use Rattle.roster_model.specs.Rules.DaysOff.{IsPairOff}
use Rattle.roster_restrules.specs.Busy.{AreBusyDays}
use Rattle.roster_plan_bound.proofs.days_off.pair_from.Given as goal

-- the days so far are no pairs off
abbrev pub invariant-loop-i : goal.invariant-loop-i
invariant-loop-i l =
    (list : List Duty) (i : ℕ) → AreBusyDays l.days list l.busy → l.from ≤ i
    → IsPairOff l.days list (DAYS_BEFORE + i) → l.i ≤ i
