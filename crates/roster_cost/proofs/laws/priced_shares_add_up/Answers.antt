use Rattle.roster_cost.proofs.Shares.{by_prices}
use Rattle.roster_cost.proofs.laws.priced_shares_add_up.Goals as goal

pub returns : goal.returns
returns c = by_prices
