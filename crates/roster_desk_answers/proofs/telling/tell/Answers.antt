use Rattle.std.proofs.Common.{◌≡◌, rules, subst}
use Rattle.roster_book.specs.Reading.{TellsFirst}
use Rattle.roster_model.specs.Answer.{IsRefusal, records_of}
use Rattle.roster_model.specs.Record.{Check}
use Rattle.roster_desk_answers.specs.Told.{IsAnswer}
use Rattle.roster_desk_answers.proofs.Endings.{ends_by_line}
use Rattle.roster_desk_answers.proofs.telling.tell.Goals as goal

pub returns-in-Err-clause-ended : goal.returns-in-Err-clause-ended
returns-in-Err-clause-ended g c =
    let inputs = c.args.inputs.now in
    let bytes = inputs.book.items in
    let same : c.deref.result.now ≡ bytes = search rules in
    ends_by_line g.W.Write.contents (IsAnswer c.args.question inputs) (IsRefusal Check (records_of bytes)) _ _ _
    (c.refuse.ensures.ended (records_of bytes) (subst (λ told. TellsFirst Check (records_of told) c.in-Err.fault) same c.in-Err.ensures.fault))
