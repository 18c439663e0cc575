use Rattle.std.proofs.Common.{◌≡◌, ℕ, ◌<◌, true, false, length, Some, ℤ, pos, ◌+ℤ◌, ◌≤ℤ◌}
use Rattle.std.specs.Prelude.{slice_get}
use Rattle.roster_cost.specs.Amounts.{IsWithin}
use Rattle.roster_model.specs.Rules.{is_among}
use Rattle.roster_plan_bound.specs.declared.parts.TheConstants.{MOST_BEHIND}
use Rattle.roster_plan_bound.specs.declared.rows_behind.OwedRows.{OwedRows}
use Rattle.roster_plan_bound.specs.Behinds.{lowest, row_at, row_for}
use Rattle.roster_plan_bound.specs.Chains.{value_at}
use Rattle.roster_plan_bound.specs.Timelines.{class_of, later_than, need_behind, rank_of, unrested_after, MayEnd}
use Rattle.roster_plan_bound.proofs.leading.base_of.Given as goal

-- the base is no more than what the ranks so far lead to
abbrev pub invariant-loop-s : goal.invariant-loop-s
invariant-loop-s l = record {
  end : MayEnd l.timeline l.p l.need → l.base ≤ℤ pos 0;
  tail : l.until < length l.timeline.order.items → (tail : ℤ) → slice_get l.behind.tails.items l.until ≡ Some tail
      → l.base ≤ℤ tail;
  rested : (s q : ℕ) (rows : OwedRows) (amount : ℤ) → rank_of l.timeline l.p < s → s < l.s
      → slice_get l.timeline.order.items s ≡ Some q → is_among (later_than l.timeline l.p) q ≡ true
      → is_among (unrested_after l.timeline l.p) q ≡ false → slice_get l.behind.rows.items q ≡ Some rows
      → lowest ≤ℤ amount
      → (value_at l.valued.values.now q +ℤ row_at (row_for rows (need_behind l.timeline l.p q l.need)) (class_of l.timeline q)) ≤ℤ amount
      → l.base ≤ℤ amount;
  within : IsWithin MOST_BEHIND l.base;
}
