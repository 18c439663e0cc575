use Rattle.std.proofs.Common.{◌∙◌, sym}
use Rattle.roster_book.specs.Draft.{contents_of, tables_of_draft}
use Rattle.roster_book.proofs.Finishing.{IsBookOf-draft, IsFaultless-draft, first_fault-missing, first_fault-none}
use Rattle.roster_book.proofs.Sound.{IsSound-in_order, IsSound-records}
use Rattle.roster_book.proofs.draft.Draft.finish.Goals as goal

pub returns-in-Some-clause-told : goal.returns-in-Some-clause-told
returns-in-Some-clause-told c = λ command row records d.
    rw c.at.ensures (first_fault-missing command row records (contents_of c.args.self) c.in-Some.row d (sym c.in-Some.ensures))

pub assigned-requires : goal.assigned-requires
assigned-requires c = (IsSound-records (contents_of c.args.self) c.requires.records).persons

pub with_roster-requires-clause-sound : goal.with_roster-requires-clause-sound
with_roster-requires-clause-sound c =
    IsSound-in_order (tables_of_draft c.args.self)
    (IsSound-records (contents_of c.args.self) c.requires.records)

pub with_roster-requires-clause-faultless : goal.with_roster-requires-clause-faultless
with_roster-requires-clause-faultless c =
    IsFaultless-draft (contents_of c.args.self) c.requires.records (sym c.in_default.ensures)

pub returns-clause-told : goal.returns-clause-told
returns-clause-told c = λ command row records d.
    let book = c.in_ok-with_roster.ensures in
    IsBookOf-draft command row records (contents_of c.args.self) _ d (sym c.in_default.ensures)
    book.0 (book.1 ∙ c.in_ok-assigned.ensures) book.2

pub returns-in_err-assigned-clause-memory : goal.returns-in_err-assigned-clause-memory
returns-in_err-assigned-clause-memory c = λ command row records d memory. first_fault-none command row records (contents_of c.args.self) d (sym c.in_default.ensures)

pub returns-in_err-with_roster-clause-memory : goal.returns-in_err-with_roster-clause-memory
returns-in_err-with_roster-clause-memory c = λ command row records d memory. first_fault-none command row records (contents_of c.args.self) d (sym c.in_default.ensures)
