use Rattle.roster_combine.proofs.Best.{best_exists}
use Rattle.roster_combine.proofs.laws.has_best.Goals as goal

pub returns : goal.returns
returns c = best_exists
