use Rattle.std.proofs.Common.{rules, ap, sym}
use Rattle.roster_problem.proofs.Homes.{base_of_entry}
use Rattle.roster_problem.proofs.problem.Problem.home.Goals as goal

pub returns : goal.returns
returns c =
    let base = base_of_entry (λ person. person.base) c.self.inside.tables.bases.items c.self.inside.tables.persons.items c.args.k c.person.inside.base c.index-person.result.now c.self.invariant.sound.homes (search rules) c.index-person.ensures (ap (λ person. person.base) (sym c.person.view_is)) in
    rw (← c.self.view_is) (base.read c.index.result.now c.index.ensures)
