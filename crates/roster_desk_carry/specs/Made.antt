-- What the next month's book is.
use Rattle.std.specs.Prelude.{◌≡◌, ℕ, List, None}
use Rattle.roster_model.specs.Answer.{records_of}
use Rattle.roster_model.specs.Faults.{first_fault}
use Rattle.roster_model.specs.Problem.{Problem, problem_of}
use Rattle.roster_model.specs.Record.{Check}
use Rattle.roster_desk_carry_judged.specs.Carried.{IsCarried}
use Rattle.roster_desk_carry_judged.specs.declared.ledger.Before.{Before}
use Rattle.roster_desk_carry.specs.declared.carrying.CarriedBook.{CarriedBook}

-- The text is a book without a fault, and its problem is what the next month has of the book, the roster and
-- what was flown before.
pub record IsMade (book : Problem) (places : List ℕ) (before : List Before) (made : CarriedBook)
    : Type 0 where
  pub faultless : first_fault Check (records_of made.text.items) ≡ None
  pub problem : made.problem ≡ problem_of (records_of made.text.items)
  pub carried : IsCarried book places before made.problem
