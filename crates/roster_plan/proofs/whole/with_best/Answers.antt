use Rattle.std.proofs.Common.{length, sym, subst, rules}
use Rattle.std.proofs.lemmas.Iterator.Adapters.{YieldsList-from_vec}
use Rattle.std.proofs.lemmas.Iterator.Consumers.{YieldsList-turn}
use Rattle.roster_plan.specs.Bases.{IsWhole}
use Rattle.roster_plan.proofs.MonthLemmas.{month_of, month_on, month_same}
use Rattle.roster_plan.proofs.whole.with_best.Goals as goal

pub loop-whole-init : goal.loop-whole-init
loop-whole-init g c = month_same c.args.problem.now c.args.start c.requires.month

pub with_whole-requires-clause-month : goal.with_whole-requires-clause-month
with_whole-requires-clause-month g c =
    month_of c.args.problem.now c.args.start.planned.roster c.loop-whole.month c.loop-whole.invariant

pub with_whole-requires-clause-whole : goal.with_whole-requires-clause-whole
with_whole-requires-clause-whole g c =
    let wholes = c.args.wholes.items in
    let loop = c.loop-whole in
    let turn =
    YieldsList-turn (YieldsList-from_vec {s = c.into_iter-whole-iterator.result} wholes (search rules) (search rules))
    loop.yielded loop.whole-iterator loop.yielded_by c.next.result c.next.new.self c.in-Some.whole c.in-Some.is c.next.ensures.steps in
    subst (IsWhole c.args.problem.now) (sym turn.1) (c.requires.wholes (length loop.yielded) c.in-Some.whole turn.0)

pub loop-whole-preserved : goal.loop-whole-preserved
loop-whole-preserved g c =
    month_on c.args.problem.now c.args.start.planned.roster c.loop-whole.month c.in_ok-month.month
    c.loop-whole.invariant c.in_ok-month.ensures
