use Rattle.roster_instants.proofs.UtcLemmas.{plain_at_utc}
use Rattle.roster_instants.proofs.laws.plain_at_utc.Goals as goal

pub returns : goal.returns
returns c = plain_at_utc
