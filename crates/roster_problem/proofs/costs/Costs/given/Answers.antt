use Rattle.std.proofs.Common.{sym}
use Rattle.roster_problem.proofs.CostTables.{none_of_person, none_of_pairing}
use Rattle.roster_problem.proofs.costs.Costs.given.Goals.{then-k-ge-MOST_PERSONS-via-then-k-ge-MOST_PERSONS, then-k-ge-MOST_PERSONS-via-else-k-ge-MOST_PERSONS+then-p-ge-MOST_PAIRINGS}
use Rattle.roster_problem.proofs.costs.Costs.given.Goals as goal

pub returns-then-k-ge-MOST_PERSONS : goal.returns-then-k-ge-MOST_PERSONS
returns-then-k-ge-MOST_PERSONS c =
    rw (← c.self.view_is)
    (elim c.then-k-ge-MOST_PERSONS.branch [
      | then-k-ge-MOST_PERSONS-via-then-k-ge-MOST_PERSONS w ↦ sym (none_of_person c.self.inside.costs.items c.args.k c.args.p c.self.invariant.persons w.if-k-ge-MOST_PERSONS.true)
      | then-k-ge-MOST_PERSONS-via-else-k-ge-MOST_PERSONS+then-p-ge-MOST_PAIRINGS w ↦ sym (none_of_pairing c.self.inside.costs.items c.args.k c.args.p c.self.invariant.pairings w.if-p-ge-MOST_PAIRINGS.true)
    ])
