use Rattle.roster_desk_repair_terms.proofs.Kept.{keeps_duties}
use Rattle.roster_desk_repair_terms.proofs.Wholes.{fits}
use Rattle.roster_desk_repair_terms.proofs.laws.repair_keeps_duties.Goals as goal

pub returns : goal.returns
returns c = λ book published fixed price repaired repair covers rest k many one.
    keeps_duties book published fixed price repaired repair rest
    (fits book published fixed price repaired repair covers rest many) k one
