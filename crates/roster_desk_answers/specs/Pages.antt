-- What is told of the records of a book.
use Rattle.std.specs.Prelude.{◌≡◌, ⊤, ℕ, List, None}
use Rattle.roster_model.specs.Answer.{IsRefusal, records_of}
use Rattle.roster_model.specs.Faults.{first_fault}
use Rattle.roster_model.specs.Problem.{problem_of}
use Rattle.roster_model.specs.Record.{Check, Record}
use Rattle.roster_desk_arguments.specs.declared.line.Page.{Page}
use Rattle.roster_desk_arguments.specs.declared.line.Page.TheVariants as pages
use Rattle.roster_desk_fair.specs.Fair.{IsFair}
use Rattle.roster_desk_fault.specs.Told.{IsFaultText, IsFaultyBook, IsWarnText}
use Rattle.roster_desk_answers.specs.declared.untold.Untold.{Untold}
use Rattle.roster_desk_answers.specs.declared.untold.Untold.TheVariants as untolds

-- no record of the bytes has a fault
abbrev pub IsFaultless : List ℕ → Type 0
IsFaultless bytes = first_fault Check (records_of bytes) ≡ None

-- the text is the book with fair targets, and neither has a fault
pub record IsFairBook (book text : List ℕ) : Type 0 where
  pub faultless : IsFaultless book
  pub good : IsFaultless text
  pub fair : IsFair (problem_of (records_of book)) (problem_of (records_of text))

-- the text tells what is likely a mistake in the book, which has no fault
pub record AreWarnings (book text : List ℕ) : Type 0 where
  pub faultless : IsFaultless book
  pub warns : IsWarnText text

-- the text is what is to be told of the book
abbrev pub IsPage : Page → List ℕ → List ℕ → Type 0
IsPage pages.Fault book text = IsFaultText (records_of book) text
IsPage pages.Warn book text = AreWarnings book text
IsPage pages.Fair book text = IsFairBook book text

-- the line is that of the first fault of the book, unless all faults are to be told
abbrev pub IsPageRefused : Page → List ℕ → List ℕ → Type 0
IsPageRefused pages.Fault book line = ⊥
IsPageRefused pages.Warn book line = IsRefusal Check (records_of book) line
IsPageRefused pages.Fair book line = IsRefusal Check (records_of book) line

-- memory ran out
abbrev pub IsForgotten : Untold → Type 0
IsForgotten untold = untold ≡ untolds.Memory

-- the text begins with the line of the first fault of some records
pub record IsFaultOfSome (text : List ℕ) : Type 0 where
  pub records : List Record
  pub faulty : IsFaultyBook records text

-- no book was made: it would have a fault, which is told, or not ask for what is meant, or memory ran out
abbrev pub IsUnmade : Untold → Type 0
IsUnmade (untolds.Unknown unknown) = ⊥
IsUnmade (untolds.Report path fault) = ⊥
IsUnmade (untolds.Words sentence) = ⊥
IsUnmade (untolds.Faulty text) = IsFaultOfSome text.items
IsUnmade untolds.Unlike = ⊤
IsUnmade (untolds.Names text) = ⊥
IsUnmade untolds.Memory = ⊤

-- no book was made of this one, which has no fault
pub record IsUnfair (book : List ℕ) (untold : Untold) : Type 0 where
  pub faultless : IsFaultless book
  pub unmade : IsUnmade untold

-- why nothing is told of the book
abbrev pub IsPageUntold : Page → List ℕ → Untold → Type 0
IsPageUntold pages.Fault book untold = IsForgotten untold
IsPageUntold pages.Warn book untold = IsForgotten untold
IsPageUntold pages.Fair book untold = IsUnfair book untold
