use Rattle.roster_desk_arguments.proofs.telling.assigns.Goals as goal

pub returns-clause-app : goal.returns-clause-app
returns-clause-app c = c.with.ensures.app _ _ c.command-assigns.ensures.app c.needed_report.ensures.rule
