use Rattle.std.proofs.Common.{◌≡◌, ◌≤◌, length}
use Rattle.std.specs.Prelude.{All}
use Rattle.roster_plan_bound.proofs.dive.whole.Given as goal

-- one for each pairing so far, none of them too great
abbrev pub invariant-loop-p : goal.invariant-loop-p
invariant-loop-p l = record {
  long : length l.numbers.items ≡ l.p;
  small : All (λ x. x ≤ length l.problem.persons) l.numbers.items;
}
