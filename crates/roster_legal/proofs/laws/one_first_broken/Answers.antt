use Rattle.roster_legal.proofs.FirstBroken.{IsFirstBroken-one}
use Rattle.roster_legal.proofs.laws.one_first_broken.Goals as goal

pub returns : goal.returns
returns c = IsFirstBroken-one
