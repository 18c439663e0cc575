use Rattle.roster_cumulative.proofs.JudgedSums.{sum_of-one_more}
use Rattle.roster_cumulative.proofs.laws.sums_of_one_pairing_more.Goals as goal

pub returns : goal.returns
returns c = sum_of-one_more
