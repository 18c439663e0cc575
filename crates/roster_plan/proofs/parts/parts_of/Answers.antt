use Rattle.roster_plan.proofs.PartLemmas.{parts_push}
use Rattle.roster_plan.proofs.parts.parts_of.Goals as goal

pub loop-base-preserved : goal.loop-base-preserved
loop-base-preserved c =
    parts_push c.args.problem.now c.loop-base.base c.loop-base.parts.items c.push.new.self.items c.in_ok-first_part.field-0 c.in_ok-push.ensures.items c.loop-base.invariant c.in_ok-first_part.ensures
