use Rattle.roster_bases.proofs.Unites.{cost_of-unite}
use Rattle.roster_bases.proofs.laws.united_costs_add_up.Goals as goal

pub returns : goal.returns
returns c = cost_of-unite
