use Rattle.roster_cost.proofs.Fits.{units-of_set}
use Rattle.roster_cost.proofs.laws.units_of_set.Goals as goal

pub returns : goal.returns
returns c = units-of_set
