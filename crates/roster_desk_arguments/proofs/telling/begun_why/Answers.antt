use Rattle.roster_desk_arguments.proofs.telling.begun_why.Goals as goal

pub returns-clause-app : goal.returns-clause-app
returns-clause-app c = c.with.ensures.app _ _ (c.with-why.ensures.app _ _ c.command-why.ensures.app c.book.ensures.rule) c.report.ensures.rule
