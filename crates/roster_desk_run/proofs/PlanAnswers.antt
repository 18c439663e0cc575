-- What is answered to a book, where it was answered to its problem.
use Rattle.std.proofs.Common.{◌≡◌, ℕ, true, false, List, Option, Some, None, sym, ◌∙◌, subst, inl, inr}
use Rattle.std.proofs.lemmas.Bool.{cases_Bool, false≢true}
use Rattle.roster_book.specs.Reading.{IsBookOf, OfTold}
use Rattle.roster_book.specs.declared.book.Book.{Book}
use Rattle.roster_model.specs.Answer.{IsFirstFault, IsRefusal, records_of}
use Rattle.roster_model.specs.Faults.{Fault, first_fault}
use Rattle.roster_model.specs.Plans.{IsPlan, IsPlanReport}
use Rattle.roster_model.specs.Problem.{Problem}
use Rattle.roster_model.specs.Record.{Check, Record}
use Rattle.roster_model.specs.records.Assign.{assigned_in}
use Rattle.roster_model.proofs.SettledLemmas.{held-key}
use Rattle.roster_model.specs.Settled.{Anywhere, IsBest, IsNotAfter}
use Rattle.roster_plan.specs.Planned.{IsKnown}
use Rattle.roster_model.specs.Texts.{IsPlanOf, IsReportOf}
use Rattle.roster_plan.specs.declared.known.Planned.{Planned}
use Rattle.roster_desk_given.specs.declared.status.Status.{Status}
use Rattle.roster_desk_run.specs.Run.{IsAnswerTo, IsKnownText, IsPlanFrom, IsPlanOfBook, IsRosterOf, IsStartFault, IsTextOf, RefusesStart}

pub text-weaker : (P Q Out : List ℕ → Type 0) → ((text : List ℕ) → P text → Q text)
    → (text : List ℕ) × P text × Out text → (text : List ℕ) × Q text × Out text
text-weaker P Q Out more w = (w.0, more w.0 w.1, w.2)

-- a text is written of the records of a book, where one of its problem is
pub text_of_book : (book : Book) (told : Option (List ℕ)) (P Out : List ℕ → Type 0) (Q : List Record → List ℕ → Type 0) → ((records : List Record) → IsBookOf Check records book → (text : List ℕ) → P text → Q records text) → (text : List ℕ) × P text × Out text → OfTold (λ records. IsBookOf Check records book) told → OfTold (λ records. (text : List ℕ) × Q records text × Out text) told
text_of_book book None P Out Q more w read = (read.0, text-weaker P (Q read.0) Out (more read.0 read.1) w)
text_of_book book (Some bytes) P Out Q more w read =
    text-weaker P (Q (records_of bytes)) Out (more (records_of bytes) read) w

-- records without a fault have none as a check has them
no_fault : (records : List Record) (fault : Fault) → first_fault Check records ≡ None
    → IsFirstFault Check records fault → ⊥
no_fault records fault none (inl is) =
    let both : Some fault ≡ None = sym is ∙ none in
    absurd cc
no_fault records fault none (inr is) = is.later

pub plan_of_book : (report : Option (List ℕ)) (records : List Record) (book : Book)
    → IsBookOf Check records book → (text : List ℕ) → IsPlanFrom report book.problem book.assigned text
    → IsPlanOfBook report records text
plan_of_book None records book is text p = record {
  faultless = λ fault first. no_fault records fault is.faultless first;
  reports =
      subst (λ tables. IsPlanReport tables (assigned_in records) text) is.problem_is
      (subst (λ places. IsPlanReport book.problem places text) is.assigned_is p);
}
plan_of_book (Some report) records book is text p = record {
  faultless = λ fault first. no_fault records fault is.faultless first;
  start = p.0;
  is_start = subst (λ tables. IsRosterOf tables report p.0) is.problem_is p.1;
  reports = subst (λ tables. IsPlanReport tables p.0 text) is.problem_is p.2;
}

pub answer_of_book : (report : Option (List ℕ)) (records : List Record) (book : Book)
    → IsBookOf Check records book → (text : List ℕ) → IsPlanFrom report book.problem book.assigned text
    → IsAnswerTo report records text
answer_of_book None records book is text p = inr (plan_of_book None records book is text p)
answer_of_book (Some report) records book is text p = inr (plan_of_book (Some report) records book is text p)

-- a refusal is an answer
pub answer_of_refusal : (report : Option (List ℕ)) (records : List Record) (text : List ℕ)
    → IsRefusal Check records text → IsAnswerTo report records text
answer_of_refusal None records text refusal = inl refusal
answer_of_refusal (Some report) records text refusal = inl refusal

-- a plan that begins with a roster of the report
pub from_report : (report : List ℕ) (problem : Problem) (assigned start : List ℕ)
    → IsRosterOf problem report start → (text : List ℕ) → IsPlanReport problem start text
    → IsPlanFrom (Some report) problem assigned text
from_report report problem assigned start is text p = (start, is, p)

-- the text of a plan, of a roster and a bound that are one, or that of the best roster
pub report_of_plan : (problem : Problem) (given : List ℕ) (planned : Planned)
    → IsPlan problem given planned.roster planned.bound
    → (planned.is_best ≡ true → IsBest problem planned.roster.places) → (text : List ℕ)
    → IsTextOf problem planned text → IsPlanReport problem given text
report_of_plan problem given planned plan best text is = elim (cases_Bool planned.is_best) [
  | inl said ↦ inr (record { places = planned.roster.places; best = best said; written = is.of_best said })
  | inr unsaid ↦ inl (record { key = planned.roster; bound = planned.bound; plan = plan; written = is.of_other unsaid })
]

-- what is written of a plan that is said to be the best, and of one that isn't
pub text_of_best : (problem : Problem) (planned : Planned) → planned.is_best ≡ true → (text : List ℕ)
    → IsReportOf problem planned.roster.places text → IsTextOf problem planned text
text_of_best problem planned said text is =
    record { of_best = λ _. is; of_other = λ unsaid. absurd (false≢true (sym unsaid ∙ said)) }

pub text_of_other : (problem : Problem) (planned : Planned) → planned.is_best ≡ false → (text : List ℕ)
    → IsPlanOf problem planned.bound planned.roster.places text → IsTextOf problem planned text
text_of_other problem planned unsaid text is =
    record { of_best = λ said. absurd (false≢true (sym unsaid ∙ said)); of_other = λ _. is }

-- what is refused of a book's problem is refused of the book, which has no fault
start_fault : (records : List Record) (book : Book) (report : Option (List ℕ)) (status : Status)
    → RefusesStart book.problem report status → IsBookOf Check records book
    → IsStartFault report status records
start_fault records book report status refuses is = record {
  faultless = λ fault first. no_fault records fault is.faultless first;
  refuses = subst (λ tables. RefusesStart tables report status) is.problem_is refuses;
}

pub start_of_book : (book : Book) (told report : Option (List ℕ)) (status : Status)
    → RefusesStart book.problem report status → OfTold (λ records. IsBookOf Check records book) told
    → OfTold (IsStartFault report status) told
start_of_book book None report status refuses read = (read.0, start_fault read.0 book report status refuses read.1)
start_of_book book (Some bytes) report status refuses read =
    start_fault (records_of bytes) book report status refuses read

-- what is known of a plan is written of it
pub known_text : (problem : Problem) (planned : Planned) → IsKnown problem planned → (text : List ℕ)
    → IsTextOf problem planned text → IsKnownText problem text
known_text problem planned known text is = elim (cases_Bool planned.is_best) [
  | inl said ↦ inr (record {
    places = planned.roster.places;
    best = record {
      is_legal = known.held.legal;
      inside = tt;
      least = subst (λ key. IsNotAfter problem Anywhere key) (held-key problem planned.roster known.held) (known.best said);
    };
    written = is.of_best said;
  })
  | inr unsaid ↦ inl (record {
    key = planned.roster;
    bound = planned.bound;
    held = known.held;
    bounded = known.bounded;
    written = is.of_other unsaid;
  })
]
