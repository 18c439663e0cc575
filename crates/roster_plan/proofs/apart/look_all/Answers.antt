use Rattle.std.proofs.Common.{sym, subst, rules}
use Rattle.roster_plan.specs.Bases.{IsGap}
use Rattle.roster_plan.proofs.apart.look_all.Goals as goal

pub for_each_mut-requires-clause-accepts : goal.for_each_mut-requires-clause-accepts
for_each_mut-requires-clause-accepts g c κs within i one inside same =
    let is = subst (IsGap c.args.lent.now.problem.now) (sym same) (c.requires.gaps i one.now inside) in
    ((search rules, is, c.shares-threads.ensures.1), search rules)
