use Rattle.std.proofs.Common.{sym, subst}
use Rattle.roster_plan.specs.Bases.{IsGap}
use Rattle.roster_plan.proofs.apart.close_all.Goals as goal

pub for_each_mut-requires-clause-accepts : goal.for_each_mut-requires-clause-accepts
for_each_mut-requires-clause-accepts g c κs within i one inside same =
    let problem = c.args.lent.now.problem.now in
    subst (IsGap problem) (sym same) (c.renew_costs.ensures problem c.requires.gaps i one.now inside)
