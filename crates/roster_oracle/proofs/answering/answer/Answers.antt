use Rattle.roster_values.specs.View.{command_of}
use Rattle.roster_model.specs.Answer.{records_of}
use Rattle.roster_oracle.proofs.answering.answer.Goals as goal

pub returns-clause-only : goal.returns-clause-only
returns-clause-only c = λ other is.
    c.one_answer.ensures (command_of c.args.command) (records_of c.args.bytes.now) other c.in_ok-text.text.items is c.in_ok-text.ensures
