use Rattle.roster_model.specs.Answer.{IsRefusal, records_of}
use Rattle.roster_model.specs.Record.{Check}
use Rattle.roster_desk_answers.specs.Mended.{IsMended}
use Rattle.roster_desk_answers.proofs.Endings.{ends_by_line}
use Rattle.roster_desk_answers.proofs.mending.mend.Goals as goal

pub returns-in-Err-clause-ended : goal.returns-in-Err-clause-ended
returns-in-Err-clause-ended g c =
    ends_by_line g.W.Write.contents (IsMended c.args.line.now c.args.text.now c.args.report.now)
    (IsRefusal Check (records_of c.args.text.now)) _ _ _ (c.refuse.ensures.ended _ c.in-Err.ensures.fault)
