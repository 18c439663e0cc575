use Rattle.std.proofs.Common.{length, Some, sym, ap, ◌∙◌, rules}
use Rattle.std.proofs.lemmas.Iterator.Adapters.{YieldsList-from_vec}
use Rattle.std.proofs.lemmas.Iterator.Consumers.{YieldsList-turn}
use Rattle.std.proofs.lemmas.Option.{slice_get-get_or}
use Rattle.roster_plan.proofs.MonthLemmas.{month_on, month_same}
use Rattle.roster_plan.proofs.runs.with_runs.Goals as goal

pub loop-run-init : goal.loop-run-init
loop-run-init g c = month_same c.args.problem.now c.args.start c.requires.month

pub roster_of-requires : goal.roster_of-requires
roster_of-requires g c =
    let runs = c.args.runs.items in
    let loop = c.loop-run in
    let turn =
    YieldsList-turn (YieldsList-from_vec {s = c.into_iter-run-iterator.result} runs (search rules) (search rules))
    loop.yielded loop.run-iterator loop.yielded_by c.next.result c.next.new.self c.in-Some.run' c.in-Some.is c.next.ensures.steps in
    let here = slice_get-get_or runs (length loop.yielded) c.in-Some.run' turn.0 ∙ ap Some (sym turn.1) in
    c.requires.runs.each (length loop.yielded) c.in-Some.run' here

pub loop-run-preserved : goal.loop-run-preserved
loop-run-preserved g c = month_on c.args.problem.now c.args.start.planned.roster c.loop-run.month c.in_ok-month.month c.loop-run.invariant c.in_ok-month.ensures
