use Rattle.std.proofs.Common.{◌≡◌, ℕ, length, Some}
use Rattle.std.specs.Prelude.{slice_get}
use Rattle.roster_lines.specs.declared.pairs.Pairs.{Pairs}
use Rattle.roster_lines.specs.Listing.{ArePairs}
use Rattle.roster_lines.proofs.pairs_by_threads.pairs_in.Given as goal

-- the pairs of the persons so far
abbrev pub invariant-loop-one : goal.invariant-loop-one
invariant-loop-one l = record {
  long : length l.all.items ≡ length l.yielded;
  each : (k : ℕ) (pairs : Pairs) → slice_get l.all.items k ≡ Some pairs → ArePairs l.problem k pairs;
}
