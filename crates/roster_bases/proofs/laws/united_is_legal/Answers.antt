use Rattle.roster_bases.proofs.Homes.{home_united}
use Rattle.roster_bases.proofs.Unites.{legal-unite}
use Rattle.roster_bases.proofs.laws.united_is_legal.Goals as goal

pub returns : goal.returns
returns c = record { legal = legal-unite; home = home_united }
