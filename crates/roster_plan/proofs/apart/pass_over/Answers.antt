use Rattle.roster_plan.proofs.GapLemmas.{gaps_left}
use Rattle.roster_plan.proofs.apart.pass_over.Goals as goal

pub returns : goal.returns
returns c = gaps_left _ _ _ _ c.retain.ensures.filtered
