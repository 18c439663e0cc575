use Rattle.std.proofs.Common.{◌≡◌, false}
use Rattle.std.specs.List.{list_any, range_with_len}
use Rattle.roster_desk_tables.specs.Changed.{is_touched}
use Rattle.roster_desk_tables.proofs.changed.is_changed.Given as goal

-- no day so far is touched
abbrev pub invariant-loop-i : goal.invariant-loop-i
invariant-loop-i l = list_any (is_touched l.problem l.before l.after l.k) (range_with_len 0 l.i) ≡ false
