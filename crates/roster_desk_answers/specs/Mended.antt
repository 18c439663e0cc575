-- The book of a repair.
use Rattle.std.specs.Prelude.{◌≡◌, ◌≤◌, ◌⊎◌, ◌++◌, ◌∷◌, ◌*◌, ℕ, List, [], None, Option, Some, true}
use Rattle.std.specs.Borrow.{Bor}
use Rattle.roster_model.specs.Calendar.{instant_of}
use Rattle.roster_model.specs.Answer.{records_of}
use Rattle.roster_model.specs.Problem.{Problem, problem_of}
use Rattle.roster_model.specs.declared.limits.TheConstants.{MOST_UNITS}
use Rattle.roster_desk_arguments.specs.Line.{number_spelled}
use Rattle.roster_desk_arguments.specs.declared.line.RepairLine.{RepairLine}
use Rattle.roster_desk_repair.specs.Made.{IsMade}
use Rattle.roster_desk_repair.specs.declared.repairing.RepairedBook.{RepairedBook}
use Rattle.roster_desk_repair_judged.specs.declared.terms.Terms.{Terms}
use Rattle.roster_desk_answers.specs.Broken.{BreakBy, parts_at}
use Rattle.roster_desk_answers.specs.Pages.{IsFaultless}
use Rattle.roster_desk_answers.specs.Told.{IsRosterOf}

-- ---- what the line says

-- the text is a number and the letter, which stands for so many minutes
pub record IsCounted (letter times : ℕ) (text : List ℕ) (minutes : ℕ) : Type 0 where
  pub digits : List ℕ
  pub is : text ≡ digits ++ letter ∷ []
  pub counts : minutes ≡ number_spelled digits * times

-- days, hours or minutes
abbrev pub IsTime : List ℕ → ℕ → Type 0
IsTime text minutes =
    IsCounted 100 1440 text minutes ⊎ IsCounted 104 60 text minutes ⊎ IsCounted 109 1 text minutes

-- a time, a colon and cost units
pub record IsNotice (text : List ℕ) (minutes units : ℕ) : Type 0 where
  pub parts : List ℕ × List ℕ
  pub parted : parts_at 58 text ≡ Some parts
  pub time : IsTime parts.0 minutes
  pub costs : units ≡ number_spelled parts.1
  pub most : units ≤ MOST_UNITS

-- so many minutes are short notice, and what moves in them costs so much; none if none is said
abbrev pub IsShort : Option (Bor (List ℕ)) → Terms → Type 0
IsShort None terms = (terms.notice ≡ 0) × (terms.short ≡ terms.change)
IsShort (Some text) terms = IsNotice text.now terms.notice terms.short

-- the terms are those of the line
pub record AreTerms (line : RepairLine) (terms : Terms) : Type 0 where
  pub begins : instant_of line.from.now ≡ Some terms.from
  pub change : line.change ≤ MOST_UNITS → terms.change ≡ line.change
  pub short : IsShort line.notice terms

-- ---- the repair

-- the text is the repair of the book, of the roster of the report, on these terms
pub record IsRepaired (book : Problem) (terms : Terms) (report text : List ℕ) : Type 0 where
  pub published : List ℕ
  pub roster : IsRosterOf true book report published
  pub made : RepairedBook
  pub is : IsMade book published terms made
  pub written : text ≡ made.text.items

-- so it is once pairings of the book have broken off as these words say
pub record Mends (broken : List (Bor (List ℕ))) (terms : Terms) (book : Problem) (report text : List ℕ) : Type 0 where
  pub last : Problem
  pub breaks : BreakBy terms.from book broken last
  pub repaired : IsRepaired last terms report text

-- The book has no fault, and the text is its repair on the terms of the line, once each pairing has broken off that the
-- line names.
pub record IsMended (line : RepairLine) (book report text : List ℕ) : Type 0 where
  pub faultless : IsFaultless book
  pub terms : Terms
  pub are : AreTerms line terms
  pub mends : Mends line.broken.items terms (problem_of (records_of book)) report text
