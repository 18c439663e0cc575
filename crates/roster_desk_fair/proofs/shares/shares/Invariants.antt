use Rattle.std.proofs.Common.{◌≡◌, ◌++◌, drop}
use Rattle.roster_desk_fair.specs.Fair.{shares_from, shares_of}
use Rattle.roster_desk_fair.proofs.shares.shares.Given as goal

-- the shares of the first weights, and those of the weights that are left
abbrev pub invariant-loop-i : goal.invariant-loop-i
invariant-loop-i l =
    l.shares.items ++ shares_from l.flight l.whole l.before (drop l.i l.weights) ≡ shares_of l.flight l.weights
