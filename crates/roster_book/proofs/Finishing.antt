-- The problem of the records of a draft, and the first fault of them all.
use Rattle.std.proofs.Common.{◌≡◌, ℕ, Option, Some, None, List, length, refl, ap, ◌∙◌}
use Rattle.std.specs.Prelude.{option_map}
use Rattle.roster_model.specs.Record.{Record, Command}
use Rattle.roster_model.specs.Code.{NoDuty}
use Rattle.roster_model.specs.Problem.{Problem, in_order, problem_of}
use Rattle.roster_model.specs.Faults.{Fault, IsFaultless, fault_at, first_fault, missing_duty, pairing_without_duty}
use Rattle.roster_model.specs.records.Pairing.{Pairing}
use Rattle.roster_model.specs.records.Assign.{assigned_by}
use Rattle.roster_book.specs.declared.book.Book.{Book}
use Rattle.roster_book.specs.Draft.{Contents, HasRecords, IsDraftOf}
use Rattle.roster_book.specs.Reading.{IsBookOf}
use Rattle.roster_book.proofs.FirstFaultLemmas.{first_fault-at-end}
use Rattle.roster_book.proofs.Numbers.{assigned_at_most, length-assigned_by}
use Rattle.roster_book.proofs.Sound.{assigned-draft}
use mathlib.Core.Logic.{∥∥₁_map}

-- the row of the first pairing without a duty
abbrev pub row_without_duty : Problem → Option ℕ
row_without_duty tables = option_map (λ (entry : ℕ × Pairing). entry.1.row) (pairing_without_duty tables)

none_told : (o : Option (ℕ × Pairing)) → option_map (λ (entry : ℕ × Pairing). entry.1.row) o ≡ None
    → option_map {U = Fault} (λ (entry : ℕ × Pairing). fault_at entry.1.row NoDuty) o ≡ None
none_told None h = refl
none_told (Some x) h = cc

some_told : (o : Option (ℕ × Pairing)) (n : ℕ) → option_map (λ (entry : ℕ × Pairing). entry.1.row) o ≡ Some n → option_map {U = Fault} (λ (entry : ℕ × Pairing). fault_at entry.1.row NoDuty) o ≡ Some (fault_at n NoDuty)
some_told None n h = cc
some_told (Some x) n h = cc

pub first_fault-none : (command : Command) (row : ℕ) (book : List Record) (contents : Contents)
    → IsDraftOf command row book contents
    → row_without_duty contents.tables ≡ None → first_fault command book ≡ None
unfolding missing_duty
first_fault-none command row book contents d h =
    first_fault-at-end command book d.faultless d.begun ∙ none_told _ (rw d.tables_are at h)

pub first_fault-missing : (command : Command) (row : ℕ) (book : List Record) (contents : Contents) (n : ℕ)
    → IsDraftOf command row book contents
    → row_without_duty contents.tables ≡ Some n → first_fault command book ≡ Some (fault_at n NoDuty)
unfolding missing_duty
first_fault-missing command row book contents n d h =
    first_fault-at-end command book d.faultless d.begun ∙ some_told _ n (rw d.tables_are at h)

-- the tables with their duties in their order in time are the problem of the records
pub problem_of-draft : (command : Command) (row : ℕ) (book : List Record) (contents : Contents)
    → IsDraftOf command row book contents
    → record contents.tables { duties = in_order contents.tables.duties } ≡ problem_of book
problem_of-draft command row book contents d =
    ap (λ (t : Problem). record t { duties = in_order t.duties }) d.tables_are

pub IsFaultless-draft : (contents : Contents) → HasRecords contents → row_without_duty contents.tables ≡ None
    → IsFaultless (record contents.tables { duties = in_order contents.tables.duties })
unfolding HasRecords IsFaultless
IsFaultless-draft contents h none = ∥∥₁_map h (λ (command, row, book, d).
    (command, book, first_fault-none command row book contents d none, problem_of-draft command row book contents d))

-- the problem and the roster of a draft are the book of its records
pub IsBookOf-draft : (command : Command) (row : ℕ) (records : List Record) (contents : Contents) (book : Book)
    → IsDraftOf command row records contents → row_without_duty contents.tables ≡ None
    → book.problem ≡ record contents.tables { duties = in_order contents.tables.duties }
    → book.assigned ≡ assigned_by (length contents.tables.persons) (length contents.tables.pairings) contents.assigns
    → book.steps ≡ contents.steps
    → IsBookOf command records book
IsBookOf-draft command row records contents book d none problem assigned steps = record {
  faultless = first_fault-none command row records contents d none;
  problem_is = problem ∙ problem_of-draft command row records contents d;
  assigned_is = rw (d.tables_are, d.assigns_are) at assigned;
  steps_are = steps ∙ d.steps_are;
  covers = rw (assigned, problem) (length-assigned_by _ _ contents.assigns);
  numbers =
      rw (assigned, problem)
      (assigned_at_most _ _ contents.assigns (assigned-draft command row records contents d));
}
