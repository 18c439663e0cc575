use Rattle.roster_desk_arguments.proofs.commands.checker.Goals as goal

pub returns-clause-app : goal.returns-clause-app
returns-clause-app c =
    c.with_command.ensures.app _ _
    (c.with_command-line-2.ensures.app _ _
    (c.with_command-line.ensures.app _ _ c.shower.ensures.app c.assigns.ensures.app) c.fault.ensures.app)
    c.warn.ensures.app
