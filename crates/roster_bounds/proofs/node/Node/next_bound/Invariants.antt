use Rattle.std.proofs.Common.{◌≡◌, ◌<◌, ℕ, List, Some}
use Rattle.std.specs.Prelude.{◌≤ℤ◌, length, slice_get}
use Rattle.roster_lines_table.specs.Entries.{sets_of}
use Rattle.roster_lines_table.specs.Person.{lines_at}
use Rattle.roster_bounds.specs.Amounts.{AreReduced}
use Rattle.roster_bounds.specs.Chosen.{reduced_at, Meets}
use Rattle.roster_bounds.proofs.node.Node.next_bound.Given as goal

-- the lines so far
abbrev pub invariant-loop-i : goal.invariant-loop-i
invariant-loop-i l = record {
  below : (j : ℕ) (set : List ℕ) → j < l.i
      → slice_get (sets_of (lines_at l.self.tables.table (length l.self.lines))) j ≡ Some set
      → (Meets l.self.tables.table l.self.lines set → ⊥)
      → l.least ≤ℤ reduced_at l.self.tables (length l.self.lines) set;
  fits : AreReduced 1 l.least;
}
