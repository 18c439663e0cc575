use Rattle.roster_desk_repair_terms.proofs.Wholes.{whole-staying}
use Rattle.roster_desk_repair_terms.proofs.laws.published_is_whole.Goals as goal

pub returns : goal.returns
returns c = λ book published fixed price repaired repair.
    whole-staying book repaired price 0 0 published fixed repair.units
