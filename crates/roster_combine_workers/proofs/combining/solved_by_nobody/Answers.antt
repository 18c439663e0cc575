use Rattle.roster_combine_workers.proofs.RootLemmas.{nobody_is_best}
use Rattle.roster_combine_workers.proofs.combining.solved_by_nobody.Goals as goal

pub returns-clause-best : goal.returns-clause-best
returns-clause-best c = nobody_is_best c.args.problem.now _ c.requires c.in_ok-roster.ensures.left
