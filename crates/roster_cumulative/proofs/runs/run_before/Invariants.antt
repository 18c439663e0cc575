use Rattle.std.proofs.Common.{◌≡◌, ◌-◌}
use Rattle.std.specs.Prelude.{slice_index}
use Rattle.std.specs.List.{sum_by, range_with_len}
use Rattle.roster_cumulative.proofs.runs.run_before.Given as goal

abbrev pub invariant-loop-i : goal.invariant-loop-i
invariant-loop-i l =
    l.total ≡ sum_by (slice_index l.table) (range_with_len (l.end - l.n) (l.i - (l.end - l.n)))
