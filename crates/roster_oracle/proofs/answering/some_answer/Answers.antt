use Rattle.roster_values.specs.View.{command_of}
use Rattle.roster_model.specs.Answer.{records_of}
use Rattle.roster_cli_run.proofs.BookAnswers.{answer_of_book}
use Rattle.roster_oracle.proofs.answering.some_answer.Goals as goal

pub returns-in_ok-text-in-Ok : goal.returns-in_ok-text-in-Ok
returns-in_ok-text-in-Ok c =
    answer_of_book (command_of c.args.command) (records_of c.args.bytes.now) c.in-Ok.book c.in-Ok.ensures.book
    c.in_ok-text-in-Ok.text.items c.in_ok-text-in-Ok.ensures
