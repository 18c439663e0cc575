use Rattle.csv.specs.Records.{fields_of}
use Rattle.roster_book.proofs.Periods.{code_of_kind-again, code_of_kind-own}
use Rattle.roster_book.proofs.record.period.fault_of_later.Goals as goal

pub returns-in-Ok : goal.returns-in-Ok
returns-in-Ok c = λ command before some faultless. code_of_kind-again command before (fields_of c.args.fields.now) some faultless c.in-Ok.ensures.0

pub returns-in-Err : goal.returns-in-Err
returns-in-Err c =
    λ command before some faultless. code_of_kind-own before (fields_of c.args.fields.now) _ c.in-Err.ensures
