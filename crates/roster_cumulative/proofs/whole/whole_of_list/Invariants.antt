use Rattle.std.proofs.Common.{◌≡◌, ℕ, ◌*◌, ◌≤◌, take}
use Rattle.std.specs.List.{sum_by}
use Rattle.roster_model.specs.declared.limits.TheConstants.{LAST_INSTANT}
use Rattle.roster_cumulative.specs.Table.{minutes_in_all, minutes_of}
use Rattle.roster_cumulative.proofs.whole.whole_of_list.Given as goal

-- the duties so far
abbrev pub invariant-loop-k : goal.invariant-loop-k
invariant-loop-k l = record {
  value : l.total ≡ sum_by (minutes_in_all l.measure) (take l.k l.list);
  most : (from to : ℕ) → sum_by (λ duty. minutes_of l.measure duty from to) (take l.k l.list) ≤ l.total;
  bound : l.total ≤ l.k * LAST_INSTANT;
}
