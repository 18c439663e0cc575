use Rattle.std.proofs.Common.{◌≡◌, ℕ, ◌-◌, ◌<◌, ◌≤◌, true, false, List, length, Some}
use Rattle.std.specs.Prelude.{slice_get}
use Rattle.roster_model.specs.Places.{places_le}
use Rattle.roster_lines_table.specs.Entries.{sets_of}
use Rattle.roster_lines_table.proofs.lines.Lines.count_before.Given as goal

-- the cut is between the two numbers
abbrev pub invariant-loop-low : goal.invariant-loop-low
invariant-loop-low l = record {
  rising : l.low ≤ l.high;
  bound : l.high ≤ length l.self;
  before : (i : ℕ) (set : List ℕ) → i < l.low → slice_get (sets_of l.self) i ≡ Some set
      → places_le l.set set ≡ false;
  behind : (i : ℕ) (set : List ℕ) → l.high ≤ i → slice_get (sets_of l.self) i ≡ Some set
      → places_le l.set set ≡ true;
}

abbrev pub decreases-loop-low : goal.decreases-loop-low
decreases-loop-low l = l.high - l.low
