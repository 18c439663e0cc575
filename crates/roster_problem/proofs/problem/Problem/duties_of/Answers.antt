use Rattle.std.proofs.Common.{length}
use Rattle.roster_problem.specs.Duties.{is_of_pairing}
use Rattle.roster_problem.proofs.Indexes.{duties_of_place}
use Rattle.roster_problem.proofs.problem.Problem.duties_of.Goals as goal

pub returns : goal.returns
returns c =
    let listed = duties_of_place is_of_pairing (λ all. length all.pairings) _ _ _ c.self.inside.by_pairing _ c.self.view_is c.self.invariant.sound c.self.invariant.of_pairings c.requires c.list.ensures in
    record { positions = listed.positions; bound = listed.bound }
