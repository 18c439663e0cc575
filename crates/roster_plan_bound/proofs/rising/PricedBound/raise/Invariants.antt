use Rattle.std.proofs.Common.{◌≡◌, ◌≤ℤ◌}
use Rattle.roster_plan_bound.proofs.rising.PricedBound.raise.Given as goal

-- the problem and the base stay, and the bound falls nowhere
abbrev pub invariant-loop : goal.invariant-loop
invariant-loop g l = record {
  same : l.self.problem ≡ l.fn.self.problem;
  base : l.self.base ≡ l.fn.self.base;
  raised : l.fn.self.bound ≤ℤ l.self.bound;
}
