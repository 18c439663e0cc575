use Rattle.roster_desk_arguments.proofs.commands.planner.Goals as goal

pub returns-clause-app : goal.returns-clause-app
returns-clause-app c =
    c.with_command.ensures.app _ _
    (c.with_command-line-2.ensures.app _ _
    (c.with_command-line.ensures.app _ _ c.bare.ensures.app c.plan.ensures.app) c.why.ensures.app)
    c.limits.ensures.app
