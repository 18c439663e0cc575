use Rattle.roster_instants.proofs.LawLemmas.{compatible_days}
use Rattle.roster_instants.proofs.laws.compatible_days.Goals as goal

pub returns : goal.returns
returns c = compatible_days
