use Rattle.roster_cost.proofs.Shares.{by_person}
use Rattle.roster_cost.proofs.laws.shares_add_up.Goals as goal

pub returns : goal.returns
returns c = by_person
