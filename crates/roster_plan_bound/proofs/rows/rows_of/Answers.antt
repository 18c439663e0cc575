use Rattle.std.proofs.Common.{subst, sym}
use Rattle.roster_plan_bound.specs.Networks.{AreSoFar}
use Rattle.roster_plan_bound.proofs.rows.rows_of.Goals as goal

pub loop-back-init : goal.loop-back-init
loop-back-init c =
    subst (λ rows. AreSoFar c.args.chains.now.problem.now c.args.chains.now.network.now c.args.chains.now.values.now rows c.in_ok-tails.tails.items 0)
    (sym c.new-rows.ensures.items) c.in_ok-tails.ensures
