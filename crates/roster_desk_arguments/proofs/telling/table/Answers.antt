use Rattle.roster_desk_arguments.proofs.telling.table.Goals as goal

pub returns-clause-app : goal.returns-clause-app
returns-clause-app c = c.with.ensures.app _ _ (c.with-table-2.ensures.app _ _ (c.with-table.ensures.app _ _ c.begun_table.ensures.app c.flag.ensures.rule) c.flag-2.ensures.rule) c.names.ensures.rule
