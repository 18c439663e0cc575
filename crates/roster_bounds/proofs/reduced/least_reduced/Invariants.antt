use Rattle.std.proofs.Common.{◌≡◌, ℕ, ◌<◌, ◌^◌, List, Some, pos}
use Rattle.std.specs.Prelude.{slice_get, ◌≤ℤ◌}
use Rattle.roster_model.specs.Lines.{IsLine}
use Rattle.roster_cost.specs.Priced.{reduced_cost}
use Rattle.roster_lines_table.specs.Entries.{sets_of}
use Rattle.roster_lines_table.specs.Person.{lines_at}
use Rattle.roster_bounds.specs.Amounts.{AreReduced}
use Rattle.roster_bounds.specs.Chosen.{price_at}
use Rattle.roster_bounds.proofs.reduced.least_reduced.Given as goal

-- no line so far has a lower reduced cost, and one has just this, once there is a line
abbrev pub invariant-loop-i : goal.invariant-loop-i
invariant-loop-i l = record {
  below : (j : ℕ) (set : List ℕ) → j < l.i → slice_get (sets_of (lines_at l.table l.k)) j ≡ Some set
      → l.least ≤ℤ reduced_cost l.problem (price_at l.prices) l.k set;
  bound : AreReduced 1 l.least;
  none : l.i ≡ 0 → pos (2 ^ 64) ≤ℤ l.least;
  one : 0 < l.i → (set : List ℕ) × IsLine l.problem l.k set
      × (l.least ≡ reduced_cost l.problem (price_at l.prices) l.k set);
}
