use Rattle.std.proofs.Common.{◌≡◌, ℕ, ◌+◌, ◌<◌, ◌≤◌, length}
use Rattle.std.specs.Prelude.{slice_index}
use Rattle.roster_model.specs.declared.limits.TheConstants.{MOST_DAYS}
use Rattle.roster_cumulative.proofs.OnDay.{shares}
use Rattle.roster_cumulative.proofs.table.add_time.Given as goal

abbrev pub invariant-loop-i : goal.invariant-loop-i
invariant-loop-i l = record {
  long : length l.table ≡ MOST_DAYS;
  added : (j : ℕ) → j < l.i → slice_index l.table j ≡ slice_index l.fn.table j + shares l.days l.from l.to j;
  rest : (j : ℕ) → l.i ≤ j → slice_index l.table j ≡ slice_index l.fn.table j;
}
