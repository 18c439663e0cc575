use Rattle.std.proofs.Common.{◌∙◌, sym}
use Rattle.csv.specs.Records.{fields_of}
use Rattle.roster_model.specs.records.Period.{period_in}
use Rattle.roster_values.specs.View.{command_of}
use Rattle.roster_book.proofs.Periods.{code_of-no_period, code_of-period}
use Rattle.roster_book.proofs.record.period.read_first.Goals as goal

pub returns-then-not-is_period : goal.returns-then-not-is_period
returns-then-not-is_period c =
    code_of-no_period (command_of c.args.command) (fields_of c.args.fields.now)
    (sym c.is_period.ensures ∙ c.if-not-is_period.true)

pub returns : goal.returns
unfolding period_in
returns c = rw (code_of-period (command_of c.args.command) (fields_of c.args.fields.now) (sym c.is_period.ensures ∙ c.if-not-is_period.false)) c.judge.ensures
