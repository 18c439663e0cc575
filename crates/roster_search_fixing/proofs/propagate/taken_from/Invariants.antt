use Rattle.roster_search_regions.specs.Regions.{HasNone, IsWhollyIn}
use Rattle.roster_search_fixing.proofs.propagate.taken_from.Given as goal

-- the person has none of those so far
abbrev pub invariant-loop-j : goal.invariant-loop-j
invariant-loop-j l = IsWhollyIn l.problem l.region (HasNone l.k l.taken)
