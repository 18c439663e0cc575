use Rattle.std.proofs.Common.{ℕ, ◌<◌}
use Rattle.roster_search_regions.specs.Regions.{HasNot, IsWhollyIn}
use Rattle.roster_search_least.proofs.first.may_be_earlier.Given as goal

-- those so far can't have it
abbrev pub invariant-loop-k : goal.invariant-loop-k
invariant-loop-k l = record {
  none : (j : ℕ) → j < l.k → IsWhollyIn l.problem l.region (HasNot j l.p);
}
