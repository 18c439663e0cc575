use Rattle.roster_subtreepool.proofs.TimesLemmas.{after-times}
use Rattle.roster_subtreepool.proofs.laws.each_list_in_one_span.Goals as goal

pub returns : goal.returns
returns c = after-times
