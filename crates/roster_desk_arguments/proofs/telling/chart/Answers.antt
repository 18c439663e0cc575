use Rattle.roster_desk_arguments.proofs.telling.chart.Goals as goal

pub returns-clause-app : goal.returns-clause-app
returns-clause-app c = c.with.ensures.app _ _ (c.with-chart-2.ensures.app _ _ (c.with-chart.ensures.app _ _ c.command-chart.ensures.app c.book.ensures.rule) c.report.ensures.rule) c.names.ensures.rule
