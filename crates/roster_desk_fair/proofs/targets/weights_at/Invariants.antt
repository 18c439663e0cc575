use Rattle.std.proofs.Common.{◌≡◌, map, take}
use Rattle.roster_desk_fair.specs.Fair.{weight_in}
use Rattle.roster_desk_fair.proofs.targets.weights_at.Given as goal

-- what the first persons count
abbrev pub invariant-loop-j : goal.invariant-loop-j
invariant-loop-j l = l.weights.items ≡ map (weight_in l.bare l.base) (take l.j l.persons)
