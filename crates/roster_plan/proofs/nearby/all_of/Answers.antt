use Rattle.roster_plan.proofs.NearLemmas.{HasAll-next}
use Rattle.roster_plan.proofs.nearby.all_of.Goals as goal

pub loop-p-preserved : goal.loop-p-preserved
loop-p-preserved c =
    HasAll-next c.loop-p.p c.loop-p.all c.put.new.self c.loop-p.invariant c.put.ensures.members
