use Rattle.std.proofs.Common.{◌≤◌}
use Rattle.roster_desk_chart.proofs.bands.before_leave.Given as goal

-- it only comes nearer
abbrev pub invariant-loop-position : goal.invariant-loop-position
invariant-loop-position l = l.end ≤ l.fn.end
