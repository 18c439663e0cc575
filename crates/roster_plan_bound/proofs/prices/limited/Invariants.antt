use Rattle.std.proofs.Common.{◌≡◌, length}
use Rattle.std.specs.Prelude.{All}
use Rattle.roster_cost.specs.Amounts.{IsWithin}
use Rattle.roster_plan_bound.specs.declared.parts.TheConstants.{MOST_PLAN_PRICE}
use Rattle.roster_plan_bound.proofs.prices.limited.Given as goal

-- the prices so far
abbrev pub invariant-loop-p : goal.invariant-loop-p
invariant-loop-p l = record {
  long : length l.prices.items ≡ l.p;
  within : All (IsWithin MOST_PLAN_PRICE) l.prices.items;
}
