use Rattle.std.proofs.Common.{◌≡◌, ◌≤◌, length}
use Rattle.roster_bases.specs.Bases.{persons_before}
use Rattle.roster_plan_bound.specs.Looks.{AreLeasts}
use Rattle.roster_plan_bound.proofs.pricing.Pricing.leasts.Given as goal

-- the first persons, and how many of them were seen
abbrev pub invariant-loop-k : goal.invariant-loop-k
invariant-loop-k g l = record {
  few : l.k ≤ length l.self.persons;
  seen : l.i ≡ length (persons_before l.self l.base l.k);
  behind : l.i ≤ l.k;
  are : AreLeasts l.self l.prices l.base l.k l.sum l.each.items;
}
