use Rattle.roster_desk_arguments.proofs.commands.desk.Goals as goal

pub returns-clause-app : goal.returns-clause-app
returns-clause-app c = c.with_command.ensures.app _ _ c.writer.ensures.app c.carry.ensures.app
