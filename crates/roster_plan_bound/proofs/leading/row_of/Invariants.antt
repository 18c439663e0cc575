use Rattle.std.proofs.Common.{◌≡◌, ℕ, ◌<◌, ◌≤◌, true, Some, ℤ, ◌+ℤ◌, ◌≤ℤ◌}
use Rattle.std.specs.Prelude.{All, slice_get}
use Rattle.roster_cost.specs.Amounts.{IsWithin}
use Rattle.roster_model.specs.Rules.{is_among}
use Rattle.roster_plan_bound.specs.declared.parts.TheConstants.{MOST_BEHIND}
use Rattle.roster_plan_bound.specs.declared.rows_behind.OwedRows.{OwedRows}
use Rattle.roster_plan_bound.specs.Behinds.{lowest, row_at, row_for}
use Rattle.roster_plan_bound.specs.Chains.{value_at}
use Rattle.roster_plan_bound.specs.Timelines.{class_of, low_of, need_behind, rank_of, unrested_after}
use Rattle.roster_plan_bound.proofs.leading.row_of.Given as goal

-- the row is no more than the base, and than what the ranks so far lead to
abbrev pub invariant-loop-s : goal.invariant-loop-s
invariant-loop-s l = record {
  kept : (class : ℕ) → row_at l.row class ≤ℤ l.base;
  unrested : (s q class : ℕ) (rows : OwedRows) (amount : ℤ) → rank_of l.timeline l.p < s → s < l.s
      → slice_get l.timeline.order.items s ≡ Some q → is_among (unrested_after l.timeline l.p) q ≡ true
      → slice_get l.behind.rows.items q ≡ Some rows → low_of l.timeline q ≤ class
      → class ≤ class_of l.timeline l.p → lowest ≤ℤ amount
      → (value_at l.valued.values.now q +ℤ row_at (row_for rows (need_behind l.timeline l.p q l.need)) class) ≤ℤ amount → row_at l.row class ≤ℤ amount;
  within : All (IsWithin MOST_BEHIND) l.row;
}
