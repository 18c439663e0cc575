use Rattle.std.proofs.Common.{◌≡◌, true, rules}
use Rattle.roster_model.specs.Form as form
use Rattle.roster_book.proofs.FormFacts.{IsAscii-number, parses_number}
use Rattle.roster_book.proofs.forms.number.Goals as goal

pub ascii-requires : goal.ascii-requires
ascii-requires c =
    let formed : form.is_number c.args.text.now ≡ true = search rules in
    IsAscii-number c.args.text.now formed

pub returns : goal.returns
returns c =
    let formed : form.is_number c.args.text.now ≡ true = search rules in
    let parsed = rw c.ascii.ensures at c.parse.ensures.value.0 in
    rw (c.ok.ensures.value, formed) (parses_number c.args.text.now c.parse.result parsed formed)
