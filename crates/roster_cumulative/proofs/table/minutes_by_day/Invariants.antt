use Rattle.std.proofs.Common.{◌≡◌, ℕ, ◌*◌, ◌≤◌, take}
use Rattle.std.specs.Prelude.{slice_index}
use Rattle.roster_model.specs.declared.limits.TheConstants.{LAST_INSTANT}
use Rattle.roster_model.specs.Sums.{on_day}
use Rattle.roster_cumulative.specs.Table.{minutes_of}
use Rattle.roster_cumulative.proofs.table.minutes_by_day.Given as goal

-- the duties so far
abbrev pub invariant-loop-k : goal.invariant-loop-k
invariant-loop-k l = record {
  value : (i : ℕ) → slice_index l.table i ≡ on_day (minutes_of l.measure) l.days (take l.k l.list) i;
  bound : (i : ℕ) → slice_index l.table i ≤ l.k * LAST_INSTANT;
}
