use Rattle.roster_legal.proofs.Pairwise.{pairs-decide}
use Rattle.roster_legal.proofs.laws.pairs_decide.Goals as goal

pub returns : goal.returns
returns c problem k some set rule has alone pairs before =
    pairs-decide problem k set some has alone pairs rule before
