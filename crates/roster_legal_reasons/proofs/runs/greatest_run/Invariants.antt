use Rattle.std.proofs.Common.{ℕ, ◌<◌, ◌≤◌}
use Rattle.roster_model.specs.declared.limits.TheConstants.{DAYS_BEFORE}
use Rattle.roster_model.specs.Sums.{in_run}
use Rattle.roster_legal_reasons.specs.Bounds.{minutes_by}
use Rattle.roster_legal_reasons.specs.Runs.{IsRun}
use Rattle.roster_legal_reasons.proofs.runs.greatest_run.Given as goal

-- the first of the runs so far with the most minutes
abbrev pub invariant-loop-last : goal.invariant-loop-last
invariant-loop-last l = record {
  run : IsRun (minutes_by l.measure l.days l.list) l.days l.n l.most l.greatest;
  most : (before : ℕ) → DAYS_BEFORE ≤ before → before < l.last
      → in_run (minutes_by l.measure l.days l.list) l.n before ≤ l.greatest.minutes;
  first : (before : ℕ) → DAYS_BEFORE ≤ before → before < l.greatest.last
      → in_run (minutes_by l.measure l.days l.list) l.n before < l.greatest.minutes;
}
