use Rattle.roster_model.specs.Answer.{IsRefusal, records_of}
use Rattle.roster_model.specs.Record.{Check}
use Rattle.roster_desk_answers.specs.Pages.{AreWarnings}
use Rattle.roster_desk_answers.proofs.Endings.{ends_by_line}
use Rattle.roster_desk_answers.proofs.pages.warn.Goals as goal

pub returns-in-Err-clause-ended : goal.returns-in-Err-clause-ended
returns-in-Err-clause-ended g c =
    ends_by_line g.W.Write.contents (AreWarnings c.args.book.now) (IsRefusal Check (records_of c.args.book.now))
    _ _ _ (c.refuse.ensures.ended _ c.in-Err.ensures.fault)
