use Rattle.std.proofs.Common.{sym}
use Rattle.csv.specs.Records.{fields_of}
use Rattle.roster_model.specs.Record.{StepRecord}
use Rattle.roster_book.specs.Draft.{contents_of}
use Rattle.roster_book.proofs.Drafts.{IsDraftOf-append, Takes-refused}
use Rattle.roster_book.proofs.draft.Draft.take_step.Goals as goal

pub returns-in_err-step : goal.returns-in_err-step
returns-in_err-step c = λ command row before d k.
    Takes-refused (fields_of c.args.fields.now) _ _ _ d k c.from_residual.ensures.1
    (c.in_err-step.ensures command row before d)

pub returns-in_err-push : goal.returns-in_err-push
returns-in_err-push c = λ command row before d k.
    Takes-refused (fields_of c.args.fields.now) _ _ _ d k c.from_residual-in_err-push.ensures.1
    ((c.in_ok-step.ensures command row before d).0)

pub returns : goal.returns
returns c = λ command row before d k.
    let judged = c.in_ok-step.ensures command row before d in
    rw (c.in_ok-push.ensures, judged.1) (IsDraftOf-append command row StepRecord before (fields_of c.args.fields.now) (contents_of c.args.self.now) d (sym k) judged.0)
