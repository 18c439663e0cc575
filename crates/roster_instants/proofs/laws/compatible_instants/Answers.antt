use Rattle.roster_instants.proofs.LawLemmas.{compatible}
use Rattle.roster_instants.proofs.laws.compatible_instants.Goals as goal

pub returns : goal.returns
returns c = compatible
