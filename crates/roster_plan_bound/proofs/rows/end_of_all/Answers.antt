use Rattle.std.proofs.Common.{◌∙◌, length, subst, sym}
use Rattle.roster_plan_bound.specs.Chains.{IsTail}
use Rattle.roster_plan_bound.proofs.RowLemmas.{tail_none}
use Rattle.roster_plan_bound.proofs.rows.end_of_all.Goals as goal

pub returns-clause-tail : goal.returns-clause-tail
returns-clause-tail c =
    subst (IsTail c.args.chains.now.network.now c.args.chains.now.values.now (length c.args.chains.now.problem.now.pairings))
    (sym (c.in_ok-end.ensures ∙ c.deref.ensures.value))
    (tail_none c.args.chains.now.problem.now c.args.chains.now.person c.args.chains.now.network.now c.args.chains.now.values.now c.requires.network)
