use Rattle.std.proofs.Common.{ℕ, ◌<◌, pos}
use Rattle.std.specs.Prelude.{slice_index_or}
use Rattle.roster_bounds.specs.Chosen.{AreReducedBounds, IsLeastReduced}
use Rattle.roster_bounds.proofs.tables.bounds_of.Given as goal

-- the bounds of the persons so far
abbrev pub invariant-loop-k : goal.invariant-loop-k
invariant-loop-k l = record {
  below : AreReducedBounds l.problem l.prices l.k l.bounds.items;
  least : (j : ℕ) → j < l.k → IsLeastReduced l.problem l.prices j (slice_index_or l.bounds.items j (pos 0));
}
