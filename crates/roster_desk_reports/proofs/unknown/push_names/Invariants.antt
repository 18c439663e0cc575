use Rattle.std.proofs.Common.{◌≡◌, ◌++◌, take}
use Rattle.std.specs.List.{flat_map}
use Rattle.roster_desk_reports.specs.Known.{unknown_name}
use Rattle.roster_desk_reports.proofs.unknown.push_names.Given as goal

-- the names so far
abbrev pub invariant-loop-i : goal.invariant-loop-i
invariant-loop-i l = l.out.items ≡ l.initial.out.items ++ flat_map (unknown_name l.problem) (take l.i l.names)
