use Rattle.std.proofs.Common.{length, Some, sym, ap, ◌∙◌, rules}
use Rattle.std.proofs.lemmas.Iterator.Adapters.{YieldsList-from_vec}
use Rattle.std.proofs.lemmas.Iterator.Consumers.{YieldsList-turn}
use Rattle.std.proofs.lemmas.Option.{slice_get-get_or}
use Rattle.roster_model.proofs.KeyLemmas.{key_le-refl}
use Rattle.roster_plan.proofs.PlannedLemmas.{on_from}
use Rattle.roster_plan.proofs.together.taken.Goals as goal

pub loop-attempt-init : goal.loop-attempt-init
loop-attempt-init g c = record { known = c.requires.known; kept = key_le-refl c.args.start.roster }

pub unwrap-requires : goal.unwrap-requires
unwrap-requires g c =
    let attempts = c.args.attempts.items in
    let loop = c.loop-attempt in
    let turn =
    YieldsList-turn (YieldsList-from_vec {s = c.into_iter-attempt-iterator.result} attempts (search rules) (search rules))
    loop.yielded loop.attempt-iterator loop.yielded_by c.next.result c.next.new.self c.in-Some.attempt c.in-Some.is c.next.ensures.steps in
    let here = slice_get-get_or attempts (length loop.yielded) c.in-Some.attempt turn.0 ∙ ap Some (sym turn.1) in
    let sought = c.requires.attempts.each (length loop.yielded) c.in-Some.attempt here in
    search (rules, sought)

pub loop-attempt-preserved : goal.loop-attempt-preserved
loop-attempt-preserved g c =
    on_from c.args.problem.now c.args.start.roster c.loop-attempt.planned c.in_ok-planned.planned c.loop-attempt.invariant c.in_ok-planned.ensures
