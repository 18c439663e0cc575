use Rattle.std.proofs.Common.{◌≡◌}
use Rattle.roster_plan_bound.proofs.prospect.Prospect.refine_toll.Given as goal

-- what is seen of it stays
abbrev pub invariant-loop : goal.invariant-loop
invariant-loop l = record { same : l.self ≡ l.fn.self }
