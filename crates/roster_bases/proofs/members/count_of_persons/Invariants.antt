use Rattle.std.proofs.Common.{◌≡◌, ◌≤◌, length}
use Rattle.roster_bases.specs.Bases.{persons_before}
use Rattle.roster_bases.proofs.members.count_of_persons.Given as goal

-- how many of the first persons
abbrev pub invariant-loop-k : goal.invariant-loop-k
invariant-loop-k l = record {
  few : l.k ≤ length l.problem.persons;
  own : l.count ≡ length (persons_before l.problem l.base l.k);
}
