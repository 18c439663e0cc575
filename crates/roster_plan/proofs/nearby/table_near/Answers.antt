use Rattle.roster_plan.proofs.NearLemmas.{of_near}
use Rattle.roster_plan.proofs.nearby.table_near.Goals as goal

pub returns-in-Ok-clause-near : goal.returns-in-Ok-clause-near
returns-in-Ok-clause-near c = of_near c.args.problem.now c.args.wanted.now c.in-Ok.table c.in-Ok.ensures.listed c.in-Ok.ensures.wanted c.requires.covers
