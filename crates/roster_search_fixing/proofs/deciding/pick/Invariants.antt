use Rattle.std.proofs.Common.{ℕ, ◌<◌}
use Rattle.roster_search_regions.specs.Regions.{lines_of}
use Rattle.roster_search_fixing.specs.Splits.{AgreesOn}
use Rattle.roster_search_fixing.proofs.deciding.pick.Given as goal

-- the lines of each person so far are the same
abbrev pub invariant-loop-k : goal.invariant-loop-k
invariant-loop-k l = (j : ℕ) → j < l.k → AgreesOn (lines_of l.region j)
