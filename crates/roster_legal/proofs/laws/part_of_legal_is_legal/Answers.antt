use Rattle.roster_legal.proofs.Parts.{IsLegal-part}
use Rattle.roster_legal.proofs.laws.part_of_legal_is_legal.Goals as goal

pub returns : goal.returns
returns c problem k set part ordered timed more = IsLegal-part problem k set part ordered timed more
