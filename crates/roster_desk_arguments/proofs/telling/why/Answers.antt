use Rattle.roster_desk_arguments.proofs.telling.why.Goals as goal

pub returns-clause-app : goal.returns-clause-app
returns-clause-app c = c.with.ensures.app _ _ (c.with-why-2.ensures.app _ _ (c.with-why.ensures.app _ _ c.begun_why.ensures.app c.named.ensures.rule) c.named-2.ensures.rule) c.flag.ensures.rule
