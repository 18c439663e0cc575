use Rattle.roster_legal.proofs.EachPerson.{AreVerdicts-one}
use Rattle.roster_legal.proofs.laws.one_list_of_verdicts.Goals as goal

pub returns : goal.returns
returns c = AreVerdicts-one
