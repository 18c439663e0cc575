use Rattle.roster_desk_tables.specs.Differences.{HavePersons}
use Rattle.roster_desk_tables.proofs.differences.push_persons.Given as goal

abbrev pub invariant-loop-k : goal.invariant-loop-k
invariant-loop-k l = HavePersons l.problem l.before l.after l.k l.initial.out.items l.out.items
