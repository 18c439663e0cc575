use Rattle.roster_desk_arguments.proofs.commands.shower.Goals as goal

pub returns-clause-app : goal.returns-clause-app
returns-clause-app c =
    c.with_command.ensures.app _ _
    (c.with_command-line-2.ensures.app _ _
    (c.with_command-line.ensures.app _ _ c.planner.ensures.app c.table.ensures.app) c.chart.ensures.app)
    c.diff.ensures.app
