use Rattle.roster_desk_arguments.proofs.months.begun_repair.Goals as goal

pub returns-clause-app : goal.returns-clause-app
returns-clause-app c = c.with.ensures.app _ _ (c.with-repair-2.ensures.app _ _ (c.with-repair.ensures.app _ _ c.command-repair.ensures.app c.book.ensures.rule) c.needed_report.ensures.rule) c.demanded.ensures.rule
