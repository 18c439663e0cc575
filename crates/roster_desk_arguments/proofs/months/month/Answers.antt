use Rattle.roster_desk_arguments.proofs.months.month.Goals as goal

pub returns-clause-app : goal.returns-clause-app
returns-clause-app c = c.with.ensures.app _ _ (c.with-month.ensures.app _ _ c.command-month.ensures.app c.needed.ensures.rule) c.demanded.ensures.rule
