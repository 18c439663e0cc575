use Rattle.roster_desk_fair.proofs.Sums.{all-shares}
use Rattle.roster_desk_fair.proofs.laws.shares_add_up.Goals as goal

pub returns : goal.returns
returns c = all-shares
