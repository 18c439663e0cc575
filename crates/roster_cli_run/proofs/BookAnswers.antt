-- What is answered to a book, where it was answered to its problem.
use Rattle.std.proofs.Common.{◌≡◌, ℕ, List, Option, Some, None, refl, subst, inl, inr}
use Rattle.std.specs.Prelude.{IsErrOf, OnOk, Result, Ok, Err}
use Rattle.roster_book.specs.Reading.{IsBookOf, OfTold}
use Rattle.roster_book.specs.declared.book.Book.{Book}
use Rattle.roster_model.specs.Answer.{IsAnswer, IsProblemFault, IsRefusal, IsReport, Reports, records_of}
use Rattle.roster_model.specs.Faults.{Fault}
use Rattle.roster_model.specs.Record.{Command, Record}
use Rattle.roster_model.specs.records.Assign.{assigned_in}
use Rattle.roster_report.specs.declared.fault.TextFault.{TextFault}
use Rattle.roster_report.specs.declared.fault.TextFault.TheVariants as faults
use Rattle.roster_cli_run.specs.Run.{IsProblemAnswer, IsProblemRefusal, IsProblemReport, status_of}
use Rattle.roster_cli_run.specs.declared.status.Status.TheVariants as statuses
use Rattle.roster_cli_run.proofs.IsAnswer.{no_fault}

-- ---- what is written

-- a text of one kind is written where one of another is, all of it or its first bytes
pub text-weaker : (P Q Out : List ℕ → Type 0) → ((text : List ℕ) → P text → Q text)
    → (text : List ℕ) × P text × Out text → (text : List ℕ) × Q text × Out text
text-weaker P Q Out more w = (w.0, more w.0 w.1, w.2)

-- of the records of a book, where it is of its problem
pub text_of_book : (command : Command) (book : Book) (told : Option (List ℕ)) (P Out : List ℕ → Type 0) (Q : List Record → List ℕ → Type 0) → ((records : List Record) → IsBookOf command records book → (text : List ℕ) → P text → Q records text) → (text : List ℕ) × P text × Out text → OfTold (λ records. IsBookOf command records book) told → OfTold (λ records. (text : List ℕ) × Q records text × Out text) told
text_of_book command book None P Out Q more w read =
    (read.0, text-weaker P (Q read.0) Out (more read.0 read.1) w)
text_of_book command book (Some bytes) P Out Q more w read =
    text-weaker P (Q (records_of bytes)) Out (more (records_of bytes) read) w

-- ---- from a problem to its book

pub report_of_book : (command : Command) (records : List Record) (book : Book) → IsBookOf command records book
    → (text : List ℕ) → IsProblemReport command book.problem book.assigned text
    → IsReport command records text
report_of_book command records book is text p =
    let problem = is.problem_is in
    record {
      faultless =
          no_fault command records is.faultless
          (subst (λ tables. (fault : Fault) → ¬ IsProblemFault command tables fault) problem p.faultless);
      reports =
          subst (λ tables. Reports command tables (assigned_in records) text) problem
          (subst (λ places. Reports command book.problem places text) is.assigned_is p.reports);
    }

pub refusal_of_book : (command : Command) (records : List Record) (book : Book)
    → IsBookOf command records book → (text : List ℕ) → IsProblemRefusal command book.problem text
    → IsRefusal command records text
refusal_of_book command records book is text p = record {
  fault = p.fault;
  first = inr (record { faultless = is.faultless; later = subst (λ tables. IsProblemFault command tables p.fault) is.problem_is p.told });
  written = p.written;
}

pub answer_of_book : (command : Command) (records : List Record) (book : Book) → IsBookOf command records book
    → (text : List ℕ) → IsProblemAnswer command book.problem book.assigned text
    → IsAnswer command records text
answer_of_book command records book is text (inl p) = inl (refusal_of_book command records book is text p)
answer_of_book command records book is text (inr p) = inr (report_of_book command records book is text p)

-- ---- how a run ends that wrote a report

pub written_where_answered : (result : Result Unit TextFault) (Written : Type 0)
    → status_of result ≡ statuses.Answered → OnOk result Written → Written
written_where_answered (Ok done) Written answered written = written
written_where_answered (Err faults.Memory) Written answered written =
    let apart : statuses.Memory ≡ statuses.Answered = answered in
    absurd cc
written_where_answered (Err faults.Device) Written answered written =
    let apart : statuses.WriteFailed ≡ statuses.Answered = answered in
    absurd cc

pub part_where_failed : (result : Result Unit TextFault) (Part : Type 0)
    → status_of result ≡ statuses.WriteFailed → (IsErrOf result faults.Device → Part) → Part
part_where_failed (Ok done) Part failed part =
    let apart : statuses.Answered ≡ statuses.WriteFailed = failed in
    absurd cc
part_where_failed (Err faults.Memory) Part failed part =
    let apart : statuses.Memory ≡ statuses.WriteFailed = failed in
    absurd cc
part_where_failed (Err faults.Device) Part failed part = part refl
