use Rattle.std.proofs.Common.{◌≡◌, map}
use Rattle.std.specs.List.{range_with_len}
use Rattle.roster_desk_fair.specs.Fair.{fair_target}
use Rattle.roster_desk_fair.proofs.targets.fair_targets.Given as goal

-- those of the first persons
abbrev pub invariant-loop-k : goal.invariant-loop-k
invariant-loop-k l = l.fair.items ≡ map (fair_target l.problem) (range_with_len 0 l.k)
