use Rattle.std.proofs.lemmas.Result.{on_ok_weaker}
use Rattle.roster_desk_run.specs.Run.{IsKnownText, IsTextOf}
use Rattle.roster_desk_run.proofs.PlanAnswers.{known_text, text-weaker}
use Rattle.roster_desk_run.proofs.running.write_known.Goals as goal

pub returns-clause-written : goal.returns-clause-written
returns-clause-written g c =
    let problem = c.args.problem.now in
    let planned = c.args.planned.now in
    on_ok_weaker c.write_planned.result (text-weaker (IsTextOf problem planned) (IsKnownText problem) _ (known_text problem planned c.requires.known)) c.write_planned.ensures.written

pub returns-clause-prefix : goal.returns-clause-prefix
returns-clause-prefix g c = λ failed.
    let problem = c.args.problem.now in
    let planned = c.args.planned.now in
    text-weaker (IsTextOf problem planned) (IsKnownText problem) _ (known_text problem planned c.requires.known) (c.write_planned.ensures.prefix failed)
