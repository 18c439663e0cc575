use Rattle.roster_subtreepool.proofs.LiesLemmas.{counts-lies}
use Rattle.roster_subtreepool.proofs.laws.counts_what_lies_in.Goals as goal

pub returns : goal.returns
returns c = counts-lies
