use Rattle.std.proofs.Common.{sym, arith}
use Rattle.csv.specs.Records.{fields_of}
use Rattle.roster_model.specs.Record.{CostRecord}
use Rattle.roster_book.specs.Draft.{contents_of}
use Rattle.roster_book.proofs.Drafts.{IsDraftOf-append, Takes-refused}
use Rattle.roster_book.proofs.Sound.{IsSound-records}
use Rattle.roster_book.proofs.draft.Draft.take_cost.Goals as goal

pub push-requires-clause-person : goal.push-requires-clause-person
push-requires-clause-person c =
    let sound = IsSound-records (contents_of c.args.self.now) c.requires.records in
    omega (arith, c.in_ok-cost.ensures.person, sound.persons)

pub push-requires-clause-pairing : goal.push-requires-clause-pairing
push-requires-clause-pairing c =
    let sound = IsSound-records (contents_of c.args.self.now) c.requires.records in
    omega (arith, c.in_ok-cost.ensures.pairing, sound.pairings)

pub returns-in_err-cost : goal.returns-in_err-cost
returns-in_err-cost c = λ command row before d k.
    Takes-refused (fields_of c.args.fields.now) _ _ _ d k c.from_residual.ensures.1
    (c.in_err-cost.ensures.judged command row before d)

pub returns-in_err-push : goal.returns-in_err-push
returns-in_err-push c = λ command row before d k.
    Takes-refused (fields_of c.args.fields.now) _ _ _ d k c.from_residual-in_err-push.ensures.1
    ((c.in_ok-cost.ensures.judged command row before d).0)

pub returns : goal.returns
returns c = λ command row before d k.
    let judged = c.in_ok-cost.ensures.judged command row before d in
    rw (c.in_ok-push.ensures.behind, judged.1) (IsDraftOf-append command row CostRecord before (fields_of c.args.fields.now) (contents_of c.args.self.now) d (sym k) judged.0)
