-- What the program answers to the records of a book. What `csv` makes of bytes enters the definitions
-- here and nowhere else.
use Rattle.std.specs.Prelude.{◌≡◌, ◌⊎◌, ℕ, List, Some, None, slice_get}
use Rattle.csv.specs.Reading.{records, default_config, strip_bom}
use Rattle.roster_model.specs.Record.{Record, Command, Solve, Check, Replay}
use Rattle.roster_model.specs.Code.{TooManyLines}
use Rattle.roster_model.specs.records.Assign.{assigned_in}
use Rattle.roster_model.specs.records.Crew.{Person}
use Rattle.roster_model.specs.Problem.{Problem, problem_of}
use Rattle.roster_model.specs.Faults.{Fault, fault_at, first_fault}
use Rattle.roster_model.specs.Settled.{IsBest}
use Rattle.roster_model.specs.Lines.{IsFirstCrowded}
use Rattle.roster_model.specs.Texts.{IsReportOf, IsCheckOf, fault_text}

-- the records that `csv` gives for the bytes: no header row, and any number of fields
abbrev pub records_of : List ℕ → List Record
records_of bytes = records default_config (strip_bom bytes)

-- ---- faults

-- the fault tells the first person who has more lines than there may be
pub record IsCrowdedFault (problem : Problem) (fault : Fault) : Type 0 where
  pub k : ℕ
  pub person : Person
  pub there : slice_get problem.persons k ≡ Some person
  pub crowded : IsFirstCrowded problem k
  pub told : fault ≡ fault_at person.row TooManyLines

-- the fault that the command tells of a problem: who solves or replays it makes all lines
abbrev pub IsProblemFault : Command → Problem → Fault → Type 0
IsProblemFault Solve problem fault = IsCrowdedFault problem fault
IsProblemFault Check problem fault = ⊥
IsProblemFault Replay problem fault = IsCrowdedFault problem fault

-- a fault of the problem, if no record has one
pub record IsLaterFault (command : Command) (book : List Record) (fault : Fault) : Type 0 where
  pub faultless : first_fault command book ≡ None
  pub later : IsProblemFault command (problem_of book) fault

-- the fault that is told of a book
abbrev pub IsFirstFault : Command → List Record → Fault → Type 0
IsFirstFault command book fault = (first_fault command book ≡ Some fault) ⊎ IsLaterFault command book fault

-- ---- answers

-- the text is the report of a best roster of the problem
pub record IsBestReport (problem : Problem) (text : List ℕ) : Type 0 where
  pub places : List ℕ
  pub best : IsBest problem places
  pub written : IsReportOf problem places text

-- the text is what the command reports of a problem, and of the roster that the book gives
abbrev pub Reports : Command → Problem → List ℕ → List ℕ → Type 0
Reports Solve problem places text = IsBestReport problem text
Reports Check problem places text = IsCheckOf problem places text
Reports Replay problem places text = IsBestReport problem text

-- the book has no fault, and the text is what the command reports of it
pub record IsReport (command : Command) (book : List Record) (text : List ℕ) : Type 0 where
  pub faultless : (fault : Fault) → ¬ IsFirstFault command book fault
  pub reports : Reports command (problem_of book) (assigned_in book) text

-- the text tells the first fault of the book
pub record IsRefusal (command : Command) (book : List Record) (text : List ℕ) : Type 0 where
  pub fault : Fault
  pub first : IsFirstFault command book fault
  pub written : text ≡ fault_text fault

-- the text answers the book
abbrev pub IsAnswer : Command → List Record → List ℕ → Type 0
IsAnswer command book text = IsRefusal command book text ⊎ IsReport command book text
