use Rattle.std.proofs.Common.{◌≡◌, ℕ, [], length}
use Rattle.std.specs.Prelude.{All}
use Rattle.roster_plan_bound.specs.Behinds.{row_for}
use Rattle.roster_plan_bound.proofs.behind.no_rows.Given as goal

-- empty rows so far
abbrev pub invariant-loop : goal.invariant-loop
invariant-loop l = record {
  covers : length l.rows.items ≡ l.counter;
  none : All (λ row. (need : ℕ) → row_for row need ≡ []) l.rows.items;
}
