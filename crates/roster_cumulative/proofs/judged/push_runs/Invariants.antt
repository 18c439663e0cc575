use Rattle.std.proofs.Common.{◌≡◌, ◌-◌, ◌++◌, map}
use Rattle.std.specs.Prelude.{slice_index}
use Rattle.std.specs.List.{sum_by, range_with_len}
use Rattle.roster_model.specs.declared.limits.TheConstants.{DAYS_BEFORE}
use Rattle.roster_model.specs.Sums.{in_run}
use Rattle.roster_cumulative.proofs.judged.push_runs.Given as goal

-- the run that ends the day before, and the sums so far
abbrev pub invariant-loop-last : goal.invariant-loop-last
invariant-loop-last l = record {
  run : l.run ≡ sum_by (slice_index l.table) (range_with_len (l.last - l.n) l.n);
  items : l.sums.items ≡ l.initial.sums.items ++ map (λ last. record { total = in_run (slice_index l.table) l.n last; most = l.most }) (range_with_len DAYS_BEFORE (l.last - DAYS_BEFORE));
}
