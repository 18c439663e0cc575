use Rattle.std.proofs.Common.{◌≡◌, sum, take}
use Rattle.roster_desk_fair.proofs.shares.sum_of.Given as goal

-- the sum of the first weights
abbrev pub invariant-loop-i : goal.invariant-loop-i
invariant-loop-i l = l.whole ≡ sum (take l.i l.weights)
