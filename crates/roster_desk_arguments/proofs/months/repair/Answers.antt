use Rattle.roster_desk_arguments.proofs.months.repair.Goals as goal

pub returns-clause-app : goal.returns-clause-app
returns-clause-app c = c.with.ensures.app _ _ (c.with-repair-2.ensures.app _ _ (c.with-repair.ensures.app _ _ c.begun_repair.ensures.app c.change.ensures.rule) c.named-notice.ensures.rule) c.broken.ensures.rule
