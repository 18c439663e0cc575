use Rattle.roster_desk_arguments.proofs.months.made_book.Goals as goal

pub returns-clause-app : goal.returns-clause-app
returns-clause-app c = c.with.ensures.app _ _ (c.with-book-3.ensures.app _ _ (c.with-book-2.ensures.app _ _ (c.with-book.ensures.app _ _ c.month.ensures.app c.lists-base.ensures.rule) c.named-rank.ensures.rule) c.weight.ensures.rule) c.named-start.ensures.rule
