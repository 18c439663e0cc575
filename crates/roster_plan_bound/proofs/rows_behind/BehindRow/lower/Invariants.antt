use Rattle.std.proofs.Common.{◌≡◌, ℕ, ◌<◌, ◌≤◌, length, ℤ, ◌+ℤ◌, ◌≤ℤ◌}
use Rattle.std.specs.Prelude.{All}
use Rattle.roster_cost.specs.Amounts.{IsWithin}
use Rattle.roster_plan_bound.specs.declared.parts.TheConstants.{MOST_BEHIND}
use Rattle.roster_plan_bound.specs.Behinds.{lowest, row_at}
use Rattle.roster_plan_bound.proofs.rows_behind.BehindRow.lower.Given as goal

-- the classes so far are lowered
abbrev pub invariant-loop-class : goal.invariant-loop-class
invariant-loop-class l = record {
  same : length l.self ≡ length l.fn.self;
  kept : (class : ℕ) → row_at l.self class ≤ℤ row_at l.fn.self class;
  led : (class : ℕ) (amount : ℤ) → l.low ≤ class → class < l.class → lowest ≤ℤ amount
      → (l.value +ℤ row_at l.after class) ≤ℤ amount → row_at l.self class ≤ℤ amount;
  within : All (IsWithin MOST_BEHIND) l.self;
}
