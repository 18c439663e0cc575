use Rattle.std.proofs.Common.{false, ◌≡◌}
use Rattle.std.specs.List.{list_any, range_with_len}
use Rattle.roster_desk_tables.specs.Differences as spec
use Rattle.roster_desk_tables.proofs.differences.is_moved.Given as goal

abbrev pub invariant-loop-p : goal.invariant-loop-p
invariant-loop-p l = list_any (spec.is_moved_at l.before l.after l.k) (range_with_len 0 l.p) ≡ false
