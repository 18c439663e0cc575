use Rattle.roster_values.specs.View.{command_of}
use Rattle.roster_model.specs.Answer.{IsAnswer, IsReport}
use Rattle.roster_cli_run.specs.Run.{IsProblemAnswer, IsProblemReport}
use Rattle.roster_cli_run.proofs.BookAnswers.{answer_of_book, report_of_book, text_of_book}
use Rattle.roster_cli_run.proofs.running.run.Goals as goal

pub returns-in-Ok-clause-answered : goal.returns-in-Ok-clause-answered
returns-in-Ok-clause-answered g c = λ answered.
    let command = command_of c.args.command in
    text_of_book command c.in-Ok.book _ (IsProblemReport command c.in-Ok.book.problem c.in-Ok.book.assigned) _
    (IsReport command) (λ records is. report_of_book command records c.in-Ok.book is)
    (c.answer.ensures.answered answered) c.in-Ok.ensures.book

pub returns-in-Ok-clause-part : goal.returns-in-Ok-clause-part
returns-in-Ok-clause-part g c = λ failed.
    let command = command_of c.args.command in
    text_of_book command c.in-Ok.book _ (IsProblemAnswer command c.in-Ok.book.problem c.in-Ok.book.assigned) _
    (IsAnswer command) (λ records is. answer_of_book command records c.in-Ok.book is)
    (c.answer.ensures.part failed) c.in-Ok.ensures.book
