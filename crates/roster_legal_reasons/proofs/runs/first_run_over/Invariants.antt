use Rattle.std.proofs.Common.{ℕ, ◌<◌, ◌≤◌}
use Rattle.roster_model.specs.declared.limits.TheConstants.{DAYS_BEFORE}
use Rattle.roster_model.specs.Sums.{in_run}
use Rattle.roster_legal_reasons.specs.Bounds.{minutes_by}
use Rattle.roster_legal_reasons.proofs.runs.first_run_over.Given as goal

-- the runs so far have no more
abbrev pub invariant-loop-last : goal.invariant-loop-last
invariant-loop-last l =
    (before : ℕ) → DAYS_BEFORE ≤ before → before < l.last → in_run (minutes_by l.measure l.days l.list) l.n before ≤ l.most
