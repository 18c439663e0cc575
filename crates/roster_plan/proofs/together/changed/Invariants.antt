use Rattle.std.proofs.Common.{◌≡◌, ◌≤◌, length}
use Rattle.std.specs.Prelude.{All}
use Rattle.roster_plan.proofs.together.changed.Given as goal

-- one for each number so far, none of them too great
abbrev pub invariant-loop-p : goal.invariant-loop-p
invariant-loop-p l = record {
  long : length l.places.items ≡ l.p;
  numbers : All (λ x. x ≤ length l.problem.persons) l.places.items;
}
