use Rattle.roster_legal.proofs.EachPerson.{AreLocks-one}
use Rattle.roster_legal.proofs.laws.one_list_of_locks.Goals as goal

pub returns : goal.returns
returns c = AreLocks-one
