use Rattle.std.proofs.Common.{◌≡◌}
use Rattle.std.specs.List.{range_with_len, sum_by}
use Rattle.roster_desk_fair.specs.Fair.{fixed_beside}
use Rattle.roster_desk_fair.proofs.targets.fixed_at.Given as goal

-- the flight of the first persons' fixed duties
abbrev pub invariant-loop-j : goal.invariant-loop-j
invariant-loop-j l = l.minutes ≡ sum_by (fixed_beside l.problem l.k) (range_with_len 0 l.j)
