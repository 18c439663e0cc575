use Rattle.std.proofs.Common.{◌≡◌, map, take}
use Rattle.std.specs.List.{flat_map}
use Rattle.roster_desk_reports.specs.Known.{unknown_of}
use Rattle.roster_desk_reports.specs.Text.{given_by_line}
use Rattle.roster_desk_reports.proofs.unknown.unknown_in.Given as goal

-- the lines so far
abbrev pub invariant-loop-i : goal.invariant-loop-i
invariant-loop-i l = l.out.items ≡ flat_map (unknown_of l.problem) (map given_by_line (take l.i l.report.crew.items))
