use Rattle.std.proofs.Common.{length}
use Rattle.roster_problem.specs.Duties.{is_of_person}
use Rattle.roster_problem.proofs.Indexes.{duties_of_place}
use Rattle.roster_problem.proofs.problem.Problem.fixed.Goals as goal

pub returns : goal.returns
returns c =
    let listed = duties_of_place is_of_person (λ all. length all.persons) _ _ _ c.self.inside.by_person _ c.self.view_is c.self.invariant.sound c.self.invariant.of_persons c.requires c.list.ensures in
    record { positions = listed.positions; bound = listed.bound }
