use Rattle.roster_cumulative.proofs.ListedFlight.{length-lists}
use Rattle.roster_cumulative.proofs.laws.one_list_of_each_duty.Goals as goal

pub returns : goal.returns
returns c = length-lists
