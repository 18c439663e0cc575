use Rattle.roster_bases.proofs.BaseLemmas.{same_base}
use Rattle.roster_bases.proofs.laws.each_pairing_at_home.Goals as goal

pub returns : goal.returns
returns c = same_base
