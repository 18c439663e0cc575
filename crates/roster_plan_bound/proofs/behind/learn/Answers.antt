use Rattle.roster_plan_bound.proofs.behind.learn.Goals as goal

pub tail_of-tail-requires-clause-row : goal.tail_of-tail-requires-clause-row
tail_of-tail-requires-clause-row c = c.in_ok-rows.ensures 0
