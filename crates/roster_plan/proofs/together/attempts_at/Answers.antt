use Rattle.std.proofs.Common.{sym, subst}
use Rattle.roster_model.proofs.PushLemmas.{each-push}
use Rattle.roster_plan.specs.Attempts.{AreMade, IsMade}
use Rattle.roster_plan.proofs.together.attempts_at.Goals as goal

pub loop-preserved : goal.loop-preserved
loop-preserved c =
    let problem = c.args.problem.now in
    subst (AreMade problem) (sym c.in_ok-push.ensures.items)
    record { each = each-push (λ i attempt. IsMade problem attempt) c.loop.attempts.items _ c.loop.invariant.each c.in_ok-of.ensures }
