use Rattle.std.proofs.Common.{◌≡◌, ◌∷◌, [], ℕ, List, Option, Bool, true, false, Result, Ok, Err, inl, ◌∙◌}
use Rattle.std.specs.Prelude.{IfOk, OnOk, IfSome}
use Rattle.csv.specs.Reading.{ReadRecord, Ready, has_failed, is_flexible, reader_state, reader_trim, source_of, took_first}
use Rattle.csv.specs.Records.{fields_of}
use Rattle.csv.specs.declared.error.Error.{Error}
use Rattle.csv.specs.declared.reader.Reader.{Reader}
use Rattle.csv.specs.declared.reader.Trim.TheVariants as trim
use Rattle.roster_book.specs.Reading.{AreSeen, IsOpen, records_left}
use Rattle.roster_book.proofs.RecordsLeft.{found-left, none-left}
use Rattle.roster_book.proofs.reading.next_record.Goals.{in-Ok, in-Err}
use Rattle.roster_book.proofs.reading.next_record.Goals as goal

-- what csv says of a read at a reader that takes each record as it is
abbrev Reads : {R : Type 0} → (R → Option (List ℕ)) → Reader R → Reader R → List (List ℕ) → Bool → Type 0
Reads remaining old new fields found =
    reader_trim old ≡ trim.None → Ready old → ReadRecord remaining old new found fields

found-record : {R : Type 0} (remaining : R → Option (List ℕ)) (old new : Reader R) (fields : List (List ℕ))
    (r : Result Bool Error)
    → IsOpen old → IfOk r (Reads remaining old new fields) → OnOk r (has_failed new ≡ has_failed old)
    → OnOk r (is_flexible new ≡ is_flexible old)
    → (reader_trim old ≡ trim.None → OnOk r (took_first new ≡ true))
    → IfOk r (λ found. found ≡ true → IsOpen new × AreSeen (records_left remaining old) (fields ∷ []) (records_left remaining new))
found-record remaining old new fields (Ok true) is_open reads goes flexible first = λ found.
    let read = reads is_open.trim is_open.ready in (
      record {
        config = read.2 ∙ is_open.config;
        trim = read.3 ∙ is_open.trim;
        ready = inl (first is_open.trim);
        flexible = flexible ∙ is_open.flexible;
        working = goes ∙ is_open.working;
      },
      found-left (reader_state old) (reader_state new) (source_of remaining old)
          (source_of remaining new) fields
          (rw read.1 (rw is_open.config at read.0)),
    )
found-record remaining old new fields (Ok false) is_open reads goes flexible first = λ found. cc found
found-record remaining old new fields (Err e) is_open reads goes flexible first = tt

no-record : {R : Type 0} (remaining : R → Option (List ℕ)) (old new : Reader R) (fields : List (List ℕ))
    (r : Result Bool Error)
    → IsOpen old → IfOk r (Reads remaining old new fields)
    → IfOk r (λ found. found ≡ false → IfSome (records_left remaining old) (λ left. left ≡ []))
no-record remaining old new fields (Ok true) is_open reads = λ found. cc found
no-record remaining old new fields (Ok false) is_open reads = λ found.
    let read = reads is_open.trim is_open.ready in
    none-left (reader_state old) (reader_state new) (source_of remaining old) (source_of remaining new) fields
    (rw read.1 (rw is_open.config at read.0))
no-record remaining old new fields (Err e) is_open reads = tt

pub returns-clause-record : goal.returns-clause-record
returns-clause-record g c =
    let read = c.read_byte_record.ensures in
    let held = found-record g.R.Read.remaining c.args.reader.now c.read_byte_record.new.self (fields_of c.read_byte_record.new.row) c.read_byte_record.result c.requires read.reads read.goes read.flexible read.ready in
    elim c.match-read_byte_record.branch [ in-Ok w ↦ rw w.result-is (rw w.in-Ok.is at held) | in-Err w ↦ rw w.result-is tt ]

pub returns-clause-end : goal.returns-clause-end
returns-clause-end g c =
    let held = no-record g.R.Read.remaining c.args.reader.now c.read_byte_record.new.self (fields_of c.read_byte_record.new.row) c.read_byte_record.result c.requires c.read_byte_record.ensures.reads in
    elim c.match-read_byte_record.branch [ in-Ok w ↦ rw w.result-is (rw w.in-Ok.is at held) | in-Err w ↦ rw w.result-is tt ]
