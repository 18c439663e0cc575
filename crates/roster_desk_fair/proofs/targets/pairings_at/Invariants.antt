use Rattle.std.proofs.Common.{◌≡◌}
use Rattle.std.specs.List.{range_with_len, sum_by}
use Rattle.roster_desk_fair.specs.Fair.{pairing_beside}
use Rattle.roster_desk_fair.proofs.targets.pairings_at.Given as goal

-- the flight of the first pairings
abbrev pub invariant-loop-p : goal.invariant-loop-p
invariant-loop-p l = l.minutes ≡ sum_by (pairing_beside l.problem l.k) (range_with_len 0 l.p)
