use Rattle.roster_desk_arguments.proofs.months.carry.Goals as goal

pub returns-clause-app : goal.returns-clause-app
returns-clause-app c = c.with.ensures.app _ _ (c.with-carry-3.ensures.app _ _ (c.with-carry-2.ensures.app _ _ (c.with-carry.ensures.app _ _ c.command-carry.ensures.app c.book.ensures.rule) c.needed_report.ensures.rule) c.named-flown.ensures.rule) c.named-into.ensures.rule
