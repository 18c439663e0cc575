use Rattle.roster_desk_arguments.proofs.telling.fair.Goals as goal

pub returns-clause-app : goal.returns-clause-app
returns-clause-app c = c.with.ensures.app _ _ c.command-fair.ensures.app c.book.ensures.rule
