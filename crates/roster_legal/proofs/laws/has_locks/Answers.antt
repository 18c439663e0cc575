use Rattle.roster_legal.proofs.EachPerson.{AreLocks-exist}
use Rattle.roster_legal.proofs.laws.has_locks.Goals as goal

pub returns : goal.returns
returns c = AreLocks-exist
