use Rattle.std.proofs.Common.{refl}
use Rattle.csv.specs.Records.{fields_of}
use Rattle.roster_model.specs.Record.{AssignRecord}
use Rattle.roster_model.specs.records.Assign.{assign_of}
use Rattle.roster_book.specs.Draft.{contents_of}
use Rattle.roster_book.proofs.Drafts.{Takes-pushed}
use Rattle.roster_book.proofs.draft.Draft.take_assign.Goals as goal

pub returns : goal.returns
returns c = λ command row before d k.
    let fields = fields_of c.args.fields.now in
    Takes-pushed command row AssignRecord before fields (contents_of c.args.self.now) _
    (assign_of before fields) _ _ _ d k
    (c.push.ensures _ (assign_of before fields) (c.judge_assign-assign.ensures command row before d))
    (λ same. rw same refl)
