use Rattle.std.proofs.Common.{[], ◌∷◌, ◌++◌, arith}
use Rattle.std.proofs.lemmas.Result.{MatchResult-weaker}
use Rattle.csv.specs.Records.{fields_of}
use Rattle.roster_book.specs.Draft.{contents_of}
use Rattle.roster_book.specs.Reading.{IsBookOf, TellsFirst, records_left}
use Rattle.roster_values.specs.View.{command_of}
use Rattle.roster_book.specs.declared.refusal.Refusal.TheVariants as refusals
use Rattle.roster_book.proofs.Drafts.{HasRecords-draft}
use Rattle.roster_book.proofs.FirstFaultLemmas.{first_fault-of-none}
use Rattle.roster_book.proofs.SeenRecords.{memory-told, refused-first, seen-all, seen-more, seen-next, seen-none}
use Rattle.roster_book.proofs.Sound.{few_records}
use Rattle.roster_book.proofs.reading.read_all.Goals as goal

-- ---- no record, or a first one that is refused

pub returns-then-not-branch-clause-told : goal.returns-then-not-branch-clause-told
returns-then-not-branch-clause-told g c =
    let command = command_of c.args.command in
    seen-all _ _ [] (λ all. TellsFirst command all c.at.result)
    (seen-none (records_left g.R.Read.remaining c.args.reader.now))
    (c.in_ok-next_record.ensures.end c.if-not-branch.true)
    (rw c.at.ensures (first_fault-of-none command))

pub returns-in-Err-clause-told : goal.returns-in-Err-clause-told
returns-in-Err-clause-told g c =
    let command = command_of c.args.command in
    let fields = fields_of c.next_record.new.fields in
    let next = c.in_ok-next_record.ensures.record c.if-not-branch.false in
    seen-next _ _ _ [] fields (λ all. TellsFirst command all c.at-in-Err.result)
    (seen-none (records_left g.R.Read.remaining c.args.reader.now)) next.1
    (λ last. refused-first command 1 [] fields last (refusals.Fault c.in-Err.code) c.at-in-Err.result (omega arith) tt c.in-Err.ensures c.at-in-Err.ensures)

-- ---- the end of the records

pub finish-requires : goal.finish-requires
finish-requires g c = record {
  records =
      HasRecords-draft (command_of c.args.command) c.loop-row.row c.loop-row.invariant.0
      (contents_of c.loop-row.draft) c.loop-row.invariant.1.draft;
}

pub returns-then-not-branch-2-clause-told : goal.returns-then-not-branch-2-clause-told
returns-then-not-branch-2-clause-told g c =
    let h = c.loop-row.invariant.1 in
    let command = command_of c.args.command in
    let none = c.in_ok-next_record-2.ensures.end c.if-not-branch-2.true in
    MatchResult-weaker c.finish.result (c.finish.ensures.told command c.loop-row.row _ h.draft)
    (λ book. seen-all _ _ _ (λ all. IsBookOf command all book) h.follows none)
    (λ fault. seen-all _ _ _ (λ all. TellsFirst command all fault) h.follows none)

-- ---- one more record

pub take-requires : goal.take-requires
take-requires g c = record {
  records =
      HasRecords-draft (command_of c.args.command) c.loop-row.row c.loop-row.invariant.0
      (contents_of c.loop-row.draft) c.loop-row.invariant.1.draft;
}

pub returns-in-Err-take-clause-told : goal.returns-in-Err-take-clause-told
returns-in-Err-take-clause-told g c =
    let seen = c.loop-row.invariant.0 in
    let h = c.loop-row.invariant.1 in
    let command = command_of c.args.command in
    let fields = fields_of c.next_record-in-loop-row.new.fields in
    let next = c.in_ok-next_record-2.ensures.record c.if-not-branch-2.false in
    seen-next _ _ _ seen fields (λ all. TellsFirst command all c.at-in-Err-take.result) h.follows next.1
    (λ last. refused-first command c.loop-row.row seen fields last c.in-Err-take.refusal c.at-in-Err-take.result h.draft.row_is h.draft.faultless (c.in-Err-take.ensures seen h.draft) c.at-in-Err-take.ensures)

pub returns-in_err-next_record-2-clause-told : goal.returns-in_err-next_record-2-clause-told
returns-in_err-next_record-2-clause-told g c =
    memory-told (command_of c.args.command)
    (records_left g.R.Read.remaining c.args.reader.now) _ c.from_residual-in_err-next_record-2.ensures.1

-- ---- the loop

pub loop-row-init : goal.loop-row-init
loop-row-init g c =
    let next = c.in_ok-next_record.ensures.record c.if-not-branch.false in
    (fields_of c.next_record.new.fields ∷ [], record { is_open = next.0; follows = next.1; draft = c.in-Ok.ensures })

pub loop-row-preserved : goal.loop-row-preserved
loop-row-preserved g c =
    let seen = c.loop-row.invariant.0 in
    let h = c.loop-row.invariant.1 in
    let fields = fields_of c.next_record-in-loop-row.new.fields in
    let next = c.in_ok-next_record-2.ensures.record c.if-not-branch-2.false in
    (seen ++ fields ∷ [], record { is_open = next.0; follows = seen-more _ _ _ seen fields h.follows next.1; draft = (c.in-Ok-take.ensures seen h.draft).1 })

pub unreachable-requires : goal.unreachable-requires
unreachable-requires g c =
    let d = c.loop-row.invariant.1.draft in
    let few = few_records (command_of c.args.command) c.loop-row.invariant.0 d.begun d.faultless in
    omega (arith, d.row_is)
