use Rattle.std.proofs.Common.{◌≡◌, ℕ, List, length, Some}
use Rattle.std.specs.Prelude.{slice_get}
use Rattle.roster_lines.specs.Listing.{IsRow}
use Rattle.roster_lines.proofs.pairs.pairs_of.Given as goal

-- the rows of the pairings so far
abbrev pub invariant-loop-p : goal.invariant-loop-p
invariant-loop-p l = record {
  judge : l.judge ≡ l.problem;
  long : length l.rows.items ≡ l.p;
  rows : (q : ℕ) (row : List ℕ) → slice_get l.rows.items q ≡ Some row → IsRow l.problem l.k q row;
}
