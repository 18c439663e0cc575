use Rattle.std.proofs.Common.{◌≡◌, ◌≤◌, length}
use Rattle.roster_bases.specs.Bases.{persons_before}
use Rattle.roster_bases.proofs.members.persons_of.Given as goal

-- those among the first persons
abbrev pub invariant-loop-k : goal.invariant-loop-k
invariant-loop-k l = record {
  few : l.k ≤ length l.problem.persons;
  own : l.persons.items ≡ persons_before l.problem l.base l.k;
}
