use Rattle.std.proofs.Common.{ℕ, List, pos, ◌^◌, ◌≤ℤ◌}
use Rattle.roster_bases.specs.Bases.{only}
use Rattle.roster_bases.specs.Homes.{IsHome}
use Rattle.roster_plan.proofs.FloorLemmas.{missed_until}
use Rattle.roster_plan.proofs.bound.missed_by_others.Given as goal

-- no more than what the persons so far miss in any roster of the base
abbrev pub invariant-loop-k : goal.invariant-loop-k
invariant-loop-k l = record {
  below : (places : List ℕ) → IsHome l.problem (only l.base) places
      → l.missed ≤ℤ pos (missed_until l.problem places l.k);
  low : pos 0 ≤ℤ l.missed;
  high : l.missed ≤ℤ pos (2 ^ 60);
}
