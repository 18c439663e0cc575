use Prim.Native.Nat.{◌∣◌}
use Rattle.std.proofs.Common.{ℕ, ◌<◌, get_or, unsigned_abs}
use Rattle.roster_lines_table.specs.Entries.{Entry}
use Rattle.roster_search_regions.specs.Building.{extra_in}
use Rattle.roster_search_regions.proofs.units.unit_of_lines.Given as goal

-- it divides the number, and what is so of the lines so far
abbrev pub invariant-loop-i : goal.invariant-loop-i
invariant-loop-i l = record {
  number : l.divisor ∣ l.unit;
  lines : (j : ℕ) (d : Entry) → j < l.i → l.divisor ∣ unsigned_abs (extra_in l.lines (get_or l.lines j d));
}
