-- What the next month has of a month.
use Rattle.std.specs.Prelude.{◌≡◌, ◌⊎◌, ℕ, Bool, List, Some, false, map, true}
use Rattle.roster_model.specs.Answer.{records_of}
use Rattle.roster_model.specs.Problem.{Problem, problem_of}
use Rattle.roster_desk_arguments.specs.declared.line.CarryLine.{CarryLine}
use Rattle.roster_desk_carry.specs.Made.{IsMade}
use Rattle.roster_desk_carry.specs.declared.carrying.CarriedBook.{CarriedBook}
use Rattle.roster_desk_carry_judged.specs.Months.{by_book, by_ledger}
use Rattle.roster_desk_carry_judged.specs.declared.ledger.Before.{Before}
use Rattle.roster_desk_carry_judged.specs.declared.ledger.Flown.{Flown}
use Rattle.roster_desk_reports.specs.Faults.{fault_of_report}
use Rattle.roster_desk_answers.specs.Pages.{IsFaultless, IsUnmade}
use Rattle.roster_desk_answers.specs.Refusing.{RefusesReport}
use Rattle.roster_desk_answers.specs.declared.untold.Untold.{Untold}

-- ---- the next month's book

-- what was flown before: by a ledger if there is one, and else by the book
abbrev pub IsFlown : Problem → Bool → List Before → Type 0
IsFlown book false before = before ≡ map by_book book.persons
IsFlown book true before =
    (ledger : List Flown) × (before ≡ map (by_ledger book.period ledger) book.persons)

-- it is that of the roster, and of what was flown before
pub record MakesNext (book : Problem) (places : List ℕ) (has_ledger : Bool) (made : CarriedBook) : Type 0 where
  pub before : List Before
  pub is_flown : IsFlown book has_ledger before
  pub is : IsMade book places before made

-- ---- why nothing is carried

-- the report is refused as one of the book, or no book is made
abbrev pub Keeps : Problem → CarryLine → List ℕ → Untold → Type 0
Keeps book line report untold =
    RefusesReport line.report.now (λ told. fault_of_report book report ≡ Some told) untold ⊎ IsUnmade untold

-- so it is, and the month's book has no fault
pub record IsUncarried (line : CarryLine) (text report : List ℕ) (untold : Untold) : Type 0 where
  pub faultless : IsFaultless text
  pub why : Keeps (problem_of (records_of text)) line report untold
