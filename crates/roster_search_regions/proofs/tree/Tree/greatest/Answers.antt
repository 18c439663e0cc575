use Rattle.std.proofs.Common.{[], take, sym, subst}
use Rattle.roster_search_regions.specs.Prices.{AreSums}
use Rattle.roster_search_regions.specs.Trees.{path_after}
use Rattle.roster_search_regions.proofs.TreeLemmas.{path_at}
use Rattle.roster_search_regions.proofs.tree.Tree.greatest.Goals as goal

pub loop-i-init : goal.loop-i-init
unfolding path_after
loop-i-init c = c.new-sums.ensures c.args.prices.now

pub step-requires-clause-known : goal.step-requires-clause-known
step-requires-clause-known c = (path_after [] (take c.loop-i.i c.choices-choices.result), c.loop-i.invariant)

pub value-value-requires-clause-known : goal.value-value-requires-clause-known
value-value-requires-clause-known c = (c.args.prices.now, _, c.requires, c.step.ensures _ c.loop-i.invariant)

pub loop-i-preserved : goal.loop-i-preserved
loop-i-preserved c =
    let choices = c.choices-choices.result in
    subst (AreSums c.args.prices.now c.step.new.self)
    (sym (path_at choices c.loop-i.i c.at-choice.result c.at-choice.ensures.value))
    (c.step.ensures (path_after [] (take c.loop-i.i choices)) c.loop-i.invariant)
