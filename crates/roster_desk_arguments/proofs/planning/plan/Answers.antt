use Rattle.roster_desk_arguments.proofs.planning.plan.Goals as goal

pub returns-clause-app : goal.returns-clause-app
returns-clause-app c = c.with.ensures.app _ _ (c.with-plan-2.ensures.app _ _ (c.with-plan.ensures.app _ _ c.bounded_plan.ensures.app c.named-start.ensures.rule) c.flag-progress.ensures.rule) c.named-keep.ensures.rule
