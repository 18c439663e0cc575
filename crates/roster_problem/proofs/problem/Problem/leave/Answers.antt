use Rattle.std.proofs.Common.{length}
use Rattle.roster_model.specs.records.Leave.{is_leave_of}
use Rattle.roster_problem.proofs.Indexes.{positions_of_place}
use Rattle.roster_problem.proofs.problem.Problem.leave.Goals as goal

pub returns : goal.returns
returns c =
    positions_of_place is_leave_of (λ all. length all.persons) (λ all. all.leaves) _ _ _ c.self.inside.on_leave _ c.self.view_is c.self.invariant.leaves c.requires c.list.ensures
