use Rattle.roster_desk_arguments.proofs.telling.diff.Goals as goal

pub returns-clause-app : goal.returns-clause-app
returns-clause-app c = c.with.ensures.app _ _ (c.with-diff-3.ensures.app _ _ (c.with-diff-2.ensures.app _ _ (c.with-diff.ensures.app _ _ c.command-diff.ensures.app c.book.ensures.rule) c.needed_report.ensures.rule) c.needed_report-2.ensures.rule) c.flag.ensures.rule
