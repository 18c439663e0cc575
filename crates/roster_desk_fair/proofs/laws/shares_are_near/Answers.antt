use Rattle.roster_desk_fair.proofs.Sums.{near-shares}
use Rattle.roster_desk_fair.proofs.laws.shares_are_near.Goals as goal

pub returns : goal.returns
returns c = near-shares
