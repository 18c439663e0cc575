use Rattle.roster_legal.proofs.EachPerson.{AreVerdicts-exist}
use Rattle.roster_legal.proofs.laws.has_verdicts.Goals as goal

pub returns : goal.returns
returns c = AreVerdicts-exist
