use Rattle.std.proofs.Common.{◌≡◌, rules}
use Rattle.roster_model.specs.Answer.{IsRefusal, records_of}
use Rattle.roster_model.specs.Record.{Check}
use Rattle.roster_desk_answers.specs.Pages.{IsFairBook}
use Rattle.roster_desk_answers.proofs.Endings.{ends_by_line, ends_by_text}
use Rattle.roster_desk_answers.proofs.Tellings.{fair_book}
use Rattle.roster_desk_answers.proofs.pages.share.Goals as goal

pub returns-in-Err-clause-ended : goal.returns-in-Err-clause-ended
returns-in-Err-clause-ended g c =
    ends_by_line g.W.Write.contents (IsFairBook c.args.book.now) (IsRefusal Check (records_of c.args.book.now)) _ _ _
    (c.refuse.ensures.ended _ c.in-Err.ensures.fault)

pub returns-in_ok-text-in-Ok-clause-ended : goal.returns-in_ok-text-in-Ok-clause-ended
returns-in_ok-text-in-Ok-clause-ended g c =
    let book = c.args.book.now in
    let shown = c.as_slice.result.now in
    let same : shown ≡ c.in_ok-text-in-Ok.text.items = search rules in
    ends_by_text g.W.Write.contents (IsFairBook book) (IsRefusal Check (records_of book)) _ _ _ shown
    (fair_book book c.in_ok-text-in-Ok.text.items shown c.in-Ok.read c.in-Ok.ensures.book c.in_ok-text-in-Ok.ensures.good c.in_ok-text-in-Ok.ensures.fair same)
    c.write.ensures
