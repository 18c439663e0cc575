use Rattle.std.proofs.Common.{rules, FitsSigned, w64, subst}
use Rattle.std.specs.Result.{OnOk}
use Rattle.std.proofs.lemmas.Int.{to_z-of_z}
use Rattle.std.proofs.lemmas.Result.{on_ok_weaker}
use Rattle.roster_model.specs.Texts.{IsPlanOf, IsReportOf}
use Rattle.roster_watched.specs.Watch.{inner_of}
use Rattle.roster_report.specs.Writing.{AppendsPrefix, Writes, WritesPart}
use Rattle.roster_desk_run.specs.Run.{IsTextOf}
use Rattle.roster_desk_run.proofs.PlanAnswers.{text_of_best, text_of_other, text-weaker}
use Rattle.roster_desk_run.proofs.running.write_planned.Goals as goal

pub returns-then-planned-clause-written : goal.returns-then-planned-clause-written
returns-then-planned-clause-written g c =
    let problem = c.args.problem.now in
    let planned = c.args.planned.now in
    on_ok_weaker c.write_report.result (text-weaker (IsReportOf problem planned.roster.places) (IsTextOf problem planned) _ (text_of_best problem planned c.if-planned.true)) c.write_report.ensures.written

pub returns-then-planned-clause-prefix : goal.returns-then-planned-clause-prefix
returns-then-planned-clause-prefix g c = λ failed.
    let problem = c.args.problem.now in
    let planned = c.args.planned.now in
    text-weaker (IsReportOf problem planned.roster.places) (IsTextOf problem planned) _
    (text_of_best problem planned c.if-planned.true) (c.write_report.ensures.prefix failed)

pub returns-clause-written : goal.returns-clause-written
returns-clause-written g c =
    let problem = c.args.problem.now in
    let planned = c.args.planned.now in
    let old = g.W.Write.contents (inner_of c.args.writer.now) in
    let new = g.W.Write.contents (inner_of c.write_plan.new.writer) in
    let fits : FitsSigned w64 planned.bound = search rules in
    on_ok_weaker c.write_plan.result (text-weaker (IsPlanOf problem planned.bound planned.roster.places) (IsTextOf problem planned) _ (text_of_other problem planned c.if-planned.false))
    (subst (λ told. OnOk c.write_plan.result (Writes (IsPlanOf problem told planned.roster.places) old new)) (to_z-of_z w64 planned.bound fits) c.write_plan.ensures.written)

pub returns-clause-prefix : goal.returns-clause-prefix
returns-clause-prefix g c = λ failed.
    let problem = c.args.problem.now in
    let planned = c.args.planned.now in
    let old = g.W.Write.contents (inner_of c.args.writer.now) in
    let new = g.W.Write.contents (inner_of c.write_plan.new.writer) in
    let fits : FitsSigned w64 planned.bound = search rules in
    text-weaker (IsPlanOf problem planned.bound planned.roster.places) (IsTextOf problem planned)
    (AppendsPrefix old new) (text_of_other problem planned c.if-planned.false)
    (subst (λ told. WritesPart (IsPlanOf problem told planned.roster.places) old new) (to_z-of_z w64 planned.bound fits) (c.write_plan.ensures.prefix failed))
