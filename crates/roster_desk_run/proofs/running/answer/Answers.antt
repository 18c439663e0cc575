use Rattle.std.proofs.Common.{◌≡◌, rules, Some, sym, subst}
use Rattle.std.specs.Prelude.{option_map}
use Rattle.roster_model.specs.Plans.{IsPlanReport}
use Rattle.roster_watched.specs.Watch.{inner_of}
use Rattle.roster_report.specs.Writing.{Writes, WritesPart}
use Rattle.roster_desk_run.specs.Run.{IsPlanFrom, IsRosterOf}
use Rattle.roster_desk_run.proofs.PlanAnswers.{from_report, text-weaker}
use Rattle.roster_desk_run.proofs.running.answer.Goals as goal

pub returns-in-Ok-clause-answered : goal.returns-in-Ok-clause-answered
returns-in-Ok-clause-answered g c = λ answered.
    let problem = c.args.book.now.problem in
    let assigned = c.args.book.now.assigned in
    let report = c.in-Some.report.now in
    let start = c.as_slice.result.now in
    let old = g.W.Write.contents (inner_of c.args.writer.now) in
    let new = g.W.Write.contents (inner_of c.answer_from-in-Ok.new.writer) in
    let same : start ≡ c.in-Ok.start = search rules in
    let is : IsRosterOf problem report start = subst (IsRosterOf problem report) (sym same) (record { faultless = c.in-Ok.ensures.sound; covers = c.in-Ok.ensures.covers; numbers = c.in-Ok.ensures.numbers; has = c.in-Ok.ensures.has; only = c.in-Ok.ensures.given }) in
    subst (λ told. Writes (IsPlanFrom (option_map (λ bytes. bytes.now) told) problem assigned) old new)
    (sym c.in-Some.is)
    (text-weaker (IsPlanReport problem start) (IsPlanFrom (Some report) problem assigned) _ (from_report report problem assigned start is) (c.answer_from-in-Ok.ensures.answered answered))

pub returns-in-Ok-clause-part : goal.returns-in-Ok-clause-part
returns-in-Ok-clause-part g c = λ failed.
    let problem = c.args.book.now.problem in
    let assigned = c.args.book.now.assigned in
    let report = c.in-Some.report.now in
    let start = c.as_slice.result.now in
    let old = g.W.Write.contents (inner_of c.args.writer.now) in
    let new = g.W.Write.contents (inner_of c.answer_from-in-Ok.new.writer) in
    let same : start ≡ c.in-Ok.start = search rules in
    let is : IsRosterOf problem report start = subst (IsRosterOf problem report) (sym same) (record { faultless = c.in-Ok.ensures.sound; covers = c.in-Ok.ensures.covers; numbers = c.in-Ok.ensures.numbers; has = c.in-Ok.ensures.has; only = c.in-Ok.ensures.given }) in
    subst (λ told. WritesPart (IsPlanFrom (option_map (λ bytes. bytes.now) told) problem assigned) old new)
    (sym c.in-Some.is)
    (text-weaker (IsPlanReport problem start) (IsPlanFrom (Some report) problem assigned) _ (from_report report problem assigned start is) (c.answer_from-in-Ok.ensures.part failed))
