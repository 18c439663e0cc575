use Rattle.std.proofs.Common.{◌≡◌, Some, refl, sym}
use Rattle.std.specs.Option.{option_or}
use Rattle.csv.specs.Records.{fields_of}
use Rattle.roster_model.specs.Record.{WeightRecord}
use Rattle.roster_model.specs.records.Weight.{weight_of}
use Rattle.roster_book.specs.Draft.{contents_of}
use Rattle.roster_book.proofs.Drafts.{IsDraftOf-append, Takes-refused}
use Rattle.roster_book.proofs.draft.Draft.take_weight.Goals as goal

pub returns-in_err-judge_weight : goal.returns-in_err-judge_weight
returns-in_err-judge_weight c = λ command row before d k.
    Takes-refused (fields_of c.args.fields.now) _ _ _ d k c.from_residual.ensures.1
    (c.in_err-judge_weight.ensures.judged command row before d)

pub returns : goal.returns
returns c = λ command row before d k.
    let fields = fields_of c.args.fields.now in
    let judged = c.in_ok-judge_weight.ensures.judged command row before d in
    let first : Some (weight_of before fields)
    ≡ option_or c.args.self.now.tables.weight (Some (weight_of before fields)) =
    rw c.in_ok-judge_weight.ensures.once refl in
    rw (judged.1, first)
    (IsDraftOf-append command row WeightRecord before fields (contents_of c.args.self.now) d (sym k) judged.0)
