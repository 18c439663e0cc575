use Rattle.std.proofs.Common.{List, [], ℕ, ◌<◌, length, sym, ◌∙◌, subst, inr}
use Rattle.std.specs.Arc.{arc_value}
use Rattle.std.proofs.lemmas.Result.{IfOk-at_ok}
use Rattle.roster_model.specs.Lines.{IsCrowded}
use Rattle.roster_model.specs.Problem.{Problem}
use Rattle.roster_model.specs.Rosters.{Key}
use Rattle.roster_model.specs.Settled.{IsBest}
use Rattle.roster_model.specs.Record.{Solve}
use Rattle.roster_model.specs.Texts.{IsReportOf}
use Rattle.roster_combine_workers.specs.Parts.{IsBestKey}
use Rattle.roster_cli_run.specs.Run.{IsProblemAnswer, IsProblemReport}
use Rattle.roster_cli_run.proofs.BookAnswers.{part_where_failed, text-weaker, written_where_answered}
use Rattle.roster_cli_run.proofs.running.answer_best.Goals as goal

-- nobody has too many lines, so the report of the best roster is what is answered
best_report : (problem : Problem) (places : List ℕ) → IsBest problem places
    → ((k : ℕ) → k < length problem.persons → ¬ IsCrowded problem k) → (text : List ℕ)
    → IsReportOf problem places text → IsProblemReport Solve problem [] text
best_report problem places best few text written = record {
  faultless = λ fault told. few told.k told.crowded.person told.crowded.crowded;
  reports = record { places = places; best = best; written = written };
}

pub returns-in-Ok-clause-answered : goal.returns-in-Ok-clause-answered
returns-in-Ok-clause-answered g c = λ answered.
    let problem = c.args.problem.now in
    let places = c.deref.result.now.places in
    let best = subst (λ (key : Key). IsBest problem key.places) (sym c.deref.ensures) (IfOk-at_ok (λ solved. IsBestKey problem (arc_value solved.roster)) c.in-Ok.is c.requires.best).best in
    let few =
    IfOk-at_ok
    (λ _. (k : ℕ) → k < length problem.persons → ¬ IsCrowded problem k) c.in-Ok.is c.requires.few in
    text-weaker (IsReportOf problem places) (IsProblemReport Solve problem []) _
    (best_report problem places best few)
    (written_where_answered c.write_report.result _ (sym c.told.ensures ∙ answered) c.write_report.ensures.written)

pub returns-in-Ok-clause-part : goal.returns-in-Ok-clause-part
returns-in-Ok-clause-part g c = λ failed.
    let problem = c.args.problem.now in
    let places = c.deref.result.now.places in
    let best = subst (λ (key : Key). IsBest problem key.places) (sym c.deref.ensures) (IfOk-at_ok (λ solved. IsBestKey problem (arc_value solved.roster)) c.in-Ok.is c.requires.best).best in
    let few =
    IfOk-at_ok
    (λ _. (k : ℕ) → k < length problem.persons → ¬ IsCrowded problem k) c.in-Ok.is c.requires.few in
    text-weaker (IsReportOf problem places) (IsProblemAnswer Solve problem []) _
    (λ text written. inr (best_report problem places best few text written))
    (part_where_failed c.write_report.result _ (sym c.told.ensures ∙ failed) c.write_report.ensures.prefix)
