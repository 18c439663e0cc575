use Prim.Native.Nat.{◌∣◌}
use Rattle.std.proofs.Common.{ℕ, ◌<◌, get_or}
use Rattle.std.specs.Prelude.{All}
use Rattle.roster_lines_table.specs.Person.{lines_at}
use Rattle.roster_search_regions.specs.Building.{AreDividedBefore}
use Rattle.roster_search_regions.proofs.units.unit_of.Given as goal

-- it divides the penalties, and what lines of the persons so far cost
abbrev pub invariant-loop-k : goal.invariant-loop-k
invariant-loop-k l = record {
  penalties : All (λ pairing. l.unit ∣ pairing.penalty) l.problem.pairings;
  lines : (j : ℕ) → j < l.k → AreDividedBefore l.unit (get_or l.ranges j (0, 0)).1 (lines_at l.table j);
}
