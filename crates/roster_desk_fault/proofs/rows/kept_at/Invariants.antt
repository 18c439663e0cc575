use Rattle.std.proofs.Common.{◌≡◌, ◌≤◌, take}
use Rattle.std.specs.List.{count_by}
use Rattle.roster_desk_fault.specs.Firsts.{is_kept}
use Rattle.roster_desk_fault.proofs.rows.kept_at.Given as goal

-- how many of the first rows aren't left out
abbrev pub invariant-loop-i : goal.invariant-loop-i
invariant-loop-i l = record {
  counted : l.kept ≡ count_by is_kept (take l.i l.rows);
  few : l.kept ≤ l.i;
}
