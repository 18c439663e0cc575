use Rattle.roster_problem.proofs.PositionLists.{picked-passing}
use Rattle.roster_problem.proofs.duty_list.DutyList.new.Goals as goal

pub returns-clause-filtered : goal.returns-clause-filtered
returns-clause-filtered c test rises members =
    picked-passing test c.args.duties.now c.args.positions.items rises members
