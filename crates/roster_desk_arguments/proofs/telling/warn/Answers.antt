use Rattle.roster_desk_arguments.proofs.telling.warn.Goals as goal

pub returns-clause-app : goal.returns-clause-app
returns-clause-app c = c.with.ensures.app _ _ c.command-warn.ensures.app c.book.ensures.rule
