use Rattle.std.proofs.Common.{Err, ap}
use Rattle.roster_model.specs.Plans.{IsPlanReport}
use Rattle.roster_desk_run.specs.Run.{IsTextOf}
use Rattle.roster_desk_run.proofs.PlanAnswers.{report_of_plan, text-weaker}
use Rattle.roster_desk_run.proofs.running.answer_from.Goals as goal

pub returns-in-Ok-write_planned-clause-answered : goal.returns-in-Ok-write_planned-clause-answered
returns-in-Ok-write_planned-clause-answered g c = λ answered.
    let problem = c.args.problem.now in
    let start = c.args.start.now in
    let planned = c.in-Ok.planned in
    text-weaker (IsTextOf problem planned) (IsPlanReport problem start) _ (report_of_plan problem start planned c.in-Ok.ensures.plan c.in-Ok.ensures.best) c.in-Ok-write_planned.ensures.written

pub returns-clause-part : goal.returns-clause-part
returns-clause-part g c = λ failed.
    let problem = c.args.problem.now in
    let start = c.args.start.now in
    let planned = c.in-Ok.planned in
    text-weaker (IsTextOf problem planned) (IsPlanReport problem start) _
    (report_of_plan problem start planned c.in-Ok.ensures.plan c.in-Ok.ensures.best)
    (c.in-Err-Device.ensures.prefix (ap Err c.in-Err-Device.field-0-is))
