use Rattle.std.proofs.Common.{◌≡◌, ℕ, ◌+◌, ◌*◌, ◌<◌, length, ◌-ℤ◌}
use Rattle.std.specs.Prelude.{All}
use Rattle.roster_cost.specs.Amounts.{IsWithin}
use Rattle.roster_plan_bound.specs.declared.parts.TheConstants.{MOST_TARGET_TERM}
use Rattle.roster_plan_bound.specs.Chains.{value_at}
use Rattle.roster_plan_bound.specs.Networks.{missed_at}
use Rattle.roster_plan_bound.proofs.terms.terms_of.Given as goal

-- the states so far
abbrev pub invariant-loop-f : goal.invariant-loop-f
invariant-loop-f l = record {
  long : length l.terms.items ≡ l.f;
  each : (g : ℕ) → g < l.f → value_at l.terms.items g ≡ missed_at l.problem l.k (l.fixed + g * l.step) -ℤ missed_at l.problem l.k l.fixed;
  within : All (IsWithin MOST_TARGET_TERM) l.terms.items;
}
