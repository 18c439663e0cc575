use Rattle.std.proofs.Common.{sym, subst}
use Rattle.roster_plan.specs.Bases.{AreGaps}
use Rattle.roster_plan.proofs.GapLemmas.{gaps_written}
use Rattle.roster_plan.proofs.apart.renew.Goals as goal

pub returns : goal.returns
returns g c =
    let problem = c.args.lent.now.problem.now in
    let left = c.pass_over.ensures problem c.in_ok-begin.ensures in
    let given = subst (AreGaps problem) (sym c.deref_mut.ensures.value) left in
    gaps_written problem c.pass_over.new.gaps.len c.pass_over.new.gaps.items c.renew_costs.new.gaps left
    (c.renew_costs.ensures problem given)
