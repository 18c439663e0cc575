use Rattle.roster_desk_arguments.proofs.telling.limits.Goals as goal

pub returns-clause-app : goal.returns-clause-app
returns-clause-app c = c.with.ensures.app _ _ (c.with-limits-2.ensures.app _ _ (c.with-limits.ensures.app _ _ c.command-limits.ensures.app c.book.ensures.rule) c.report.ensures.rule) c.named.ensures.rule
