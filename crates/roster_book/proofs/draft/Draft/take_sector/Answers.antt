use Rattle.csv.specs.Records.{fields_of}
use Rattle.roster_book.specs.Draft.{contents_of}
use Rattle.roster_book.proofs.Drafts.{IsDraftOf-sector, Takes-refused}
use Rattle.roster_book.proofs.draft.Draft.take_sector.Goals as goal

pub returns-in_err-place : goal.returns-in_err-place
returns-in_err-place c = λ command row before d k.
    Takes-refused (fields_of c.args.fields.now) _ _ _ d k c.from_residual.ensures.1
    (c.in_err-place.ensures.judged command row before d)

pub returns-in_err-push_sector : goal.returns-in_err-push_sector
returns-in_err-push_sector c = λ command row before d k.
    Takes-refused (fields_of c.args.fields.now) _ _ _ d k c.from_residual-in_err-push_sector.ensures.1
    ((c.in_ok-place.ensures.judged command row before d).0)

pub returns : goal.returns
returns c = λ command row before d k.
    let judged = c.in_ok-place.ensures.judged command row before d in
    rw c.in_ok-push_sector.ensures
    (IsDraftOf-sector command row before (fields_of c.args.fields.now) (contents_of c.args.self.now) c.in_ok-place.place c.in_ok-place.sector d k judged.0 judged.1)
