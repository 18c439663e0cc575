use Rattle.roster_combine_workers.proofs.PartLemmas.{least_is_best}
use Rattle.roster_combine_workers.proofs.laws.least_handed_in_is_best.Goals as goal

pub returns : goal.returns
returns c problem table lists known best is agree settled held least =
    least_is_best problem table lists c.args.closed.now known best is settled agree c.finished.ensures.found held least
