use Rattle.roster_bases.proofs.Unites.{exchange}
use Rattle.roster_bases.proofs.laws.united_keeps_order.Goals as goal

pub returns : goal.returns
returns c = exchange
