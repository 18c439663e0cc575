use Rattle.std.proofs.Common.{◌≡◌}
use Rattle.roster_desk_reports.specs.Known.{known_names}
use Rattle.roster_desk_reports.proofs.known.known.Given as goal

-- those of the first names that the book has
abbrev pub invariant-loop-name : goal.invariant-loop-name
invariant-loop-name l = l.known.items ≡ known_names l.problem l.yielded
