use Rattle.std.proofs.Common.{arith}
use Rattle.roster_problem.proofs.PositionLists.{length_of_list}
use Rattle.roster_problem.proofs.duty_list.DutyList.len.Goals as goal

pub returns-clause-value : goal.returns-clause-value
returns-clause-value c =
    let long = length_of_list c.self.inside.duties.now c.args.self.now c.self.inside.positions.items c.self.view_is c.self.invariant in
    omega arith
