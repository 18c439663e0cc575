use Rattle.roster_model.proofs.RosterLemmas.{all_open_legal}
use Rattle.roster_combine.proofs.laws.all_open_is_legal.Goals as goal

pub returns : goal.returns
returns c = all_open_legal
