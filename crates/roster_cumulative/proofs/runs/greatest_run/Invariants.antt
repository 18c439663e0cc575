use Rattle.std.proofs.Common.{◌≡◌, ◌-◌, ◌≤◌, map, max}
use Rattle.std.specs.Prelude.{slice_index}
use Rattle.std.specs.List.{sum_by, range_with_len, fold}
use Rattle.roster_model.specs.declared.limits.TheConstants.{DAYS_BEFORE}
use Rattle.roster_model.specs.Sums.{in_run}
use Rattle.roster_cumulative.specs.Table.{most_in_run}
use Rattle.roster_cumulative.proofs.runs.greatest_run.Given as goal

-- the run that ends the day before, and the most of the runs so far
abbrev pub invariant-loop-last : goal.invariant-loop-last
invariant-loop-last l = record {
  run : l.run ≡ sum_by (slice_index l.table) (range_with_len (l.last - l.n) l.n);
  greatest : l.greatest ≡ fold max 0 (map (in_run (slice_index l.table) l.n) (range_with_len DAYS_BEFORE (l.last - DAYS_BEFORE)));
  bound : l.greatest ≤ most_in_run;
}
