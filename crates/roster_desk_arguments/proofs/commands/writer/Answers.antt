use Rattle.roster_desk_arguments.proofs.commands.writer.Goals as goal

pub returns-clause-app : goal.returns-clause-app
returns-clause-app c =
    c.with_command.ensures.app _ _
    (c.with_command-line-2.ensures.app _ _
    (c.with_command-line.ensures.app _ _ c.checker.ensures.app c.repair.ensures.app) c.made_book.ensures.app)
    c.fair.ensures.app
