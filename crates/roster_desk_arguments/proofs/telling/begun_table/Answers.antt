use Rattle.roster_desk_arguments.proofs.telling.begun_table.Goals as goal

pub returns-clause-app : goal.returns-clause-app
returns-clause-app c = c.with.ensures.app _ _ (c.with-table-2.ensures.app _ _ (c.with-table.ensures.app _ _ c.command-table.ensures.app c.book.ensures.rule) c.report.ensures.rule) c.flag.ensures.rule
