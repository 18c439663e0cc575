use Rattle.roster_cost.specs.Amounts.{IsWithin}
use Rattle.roster_plan_bound.specs.declared.parts.TheConstants.{MOST_LEAST}
use Rattle.roster_plan_bound.specs.Prospects.{IsLeastPath}
use Rattle.roster_plan_bound.proofs.prospect.Prospect.least.Given as goal

-- by the tables so far
abbrev pub invariant-loop-i : goal.invariant-loop-i
invariant-loop-i l = record {
  below : IsLeastPath l.self.problem l.self.person l.self.timeline l.self.units l.least;
  within : IsWithin MOST_LEAST l.least;
}
