use Rattle.std.proofs.Common.{◌≡◌, ◌++◌}
use Rattle.std.specs.List.{flat_map, range_with_len}
use Rattle.roster_desk_tables.specs.Differences.{move_line}
use Rattle.roster_desk_tables.proofs.differences.push_moves.Given as goal

abbrev pub invariant-loop-p : goal.invariant-loop-p
invariant-loop-p l = l.out.items ≡ l.initial.out.items ++ flat_map (move_line l.problem l.before l.after) (range_with_len 0 l.p)
