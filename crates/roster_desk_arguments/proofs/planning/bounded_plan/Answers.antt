use Rattle.roster_desk_arguments.proofs.planning.bounded_plan.Goals as goal

pub returns-clause-app : goal.returns-clause-app
returns-clause-app c = c.with.ensures.app _ _ (c.with-plan-3.ensures.app _ _ (c.with-plan-2.ensures.app _ _ (c.with-plan.ensures.app _ _ c.command-plan.ensures.app c.book.ensures.rule) c.effort.ensures.rule) c.workers.ensures.rule) c.sets.ensures.rule
