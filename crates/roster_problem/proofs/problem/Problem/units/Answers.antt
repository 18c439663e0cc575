use Rattle.std.proofs.Common.{SFits, w32, w64, rules}
use Rattle.std.proofs.lemmas.Int.{to_z-of_z}
use Rattle.roster_model.proofs.CostLemmas.{units-limited}
use Rattle.roster_problem.proofs.problem.Problem.units.Goals as goal

pub returns-clause-bound : goal.returns-clause-bound
returns-clause-bound c =
    let narrow : SFits w32 c.unwrap_or.result = search rules in
    let wide : SFits w64 c.from.result = search rules in
    rw (to_z-of_z w64 c.from.result wide, c.from.ensures, to_z-of_z w32 c.unwrap_or.result narrow, c.unwrap_or.ensures, c.given.ensures)
    (units-limited c.self.inside.tables.costs c.args.k c.args.p c.self.invariant.sound.units)
