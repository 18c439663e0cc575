-- What a plan is that may begin with a roster of a report, and how a run ends that answers a book with one.
use Rattle.std.specs.Prelude.{◌≡◌, ◌<◌, ◌≤◌, ◌⊎◌, ℕ, true, false, Option, Some, None, List, ℤ, All, codes, length, slice_get, take}
use Rattle.roster_model.specs.Answer.{IsBestReport, IsFirstFault, IsRefusal}
use Rattle.roster_model.specs.Faults.{Fault}
use Rattle.roster_model.specs.Plans.{IsPlanAnswer, IsPlanned, IsPlanReport}
use Rattle.roster_model.specs.Problem.{Problem, problem_of}
use Rattle.roster_model.specs.Record.{Check, Record}
use Rattle.roster_model.specs.Rosters.{Key}
use Rattle.roster_model.specs.Settled.{IsHeld, IsLowerBound}
use Rattle.roster_model.specs.Texts.{fault_text, IsPlanOf, IsReportOf}
use Rattle.roster_plan.specs.declared.known.Planned.{Planned}
use Rattle.roster_desk_reports.specs.Faults.{Told}
use Rattle.roster_desk_reports.specs.Given.{HasAll, IsGiven}
use Rattle.roster_desk_reports.specs.Known.{fault_of_known, known_by_text}
use Rattle.roster_desk_given.specs.declared.status.Status.{Status}
use Rattle.roster_desk_given.specs.declared.status.Status.TheVariants as statuses

-- ---- what is written of a plan

-- the report of its roster if that is said to be the best one, and else its lines with the bound
pub record IsTextOf (problem : Problem) (planned : Planned) (text : List ℕ) : Type 0 where
  pub of_best : planned.is_best ≡ true → IsReportOf problem planned.roster.places text
  pub of_other : planned.is_best ≡ false → IsPlanOf problem planned.bound planned.roster.places text

-- A legal roster with a bound that none costs less than, whatever it began with, or the report of the
-- best roster: what may be kept of a plan before it ends.
pub record IsPlanSoFar (problem : Problem) (text : List ℕ) : Type 0 where
  pub key : Key
  pub bound : ℤ
  pub held : IsHeld problem key
  pub bounded : IsLowerBound problem bound
  pub written : IsPlanOf problem bound key.places text

abbrev pub IsKnownText : Problem → List ℕ → Type 0
IsKnownText problem text = IsPlanSoFar problem text ⊎ IsBestReport problem text

-- ---- where a plan begins

-- nothing is wrong with the report as one of the book as it may have been, and the roster has what it gives of
-- the book's pairings, and nothing else
pub record IsRosterOf (problem : Problem) (report places : List ℕ) : Type 0 where
  pub faultless : fault_of_known problem report ≡ None
  pub covers : length places ≡ length problem.pairings
  pub numbers : All (λ x. x ≤ length problem.persons) places
  pub has : HasAll problem places (known_by_text problem report)
  pub only : (p k : ℕ) → k < length problem.persons → slice_get places p ≡ Some k
      → IsGiven problem (known_by_text problem report) p k

-- the text is that of a plan which begins with the assignments, or with the roster of the report if there is one
abbrev pub IsPlanFrom : Option (List ℕ) → Problem → List ℕ → List ℕ → Type 0
IsPlanFrom None problem assigned text = IsPlanReport problem assigned text
IsPlanFrom (Some report) problem assigned text =
    (start : List ℕ) × IsRosterOf problem report start × IsPlanReport problem start text

-- no record of the book has a fault
abbrev pub IsFaultless : List Record → Type 0
IsFaultless book = (fault : Fault) → ¬ IsFirstFault Check book fault

-- the book has no fault, and the text is a plan of it that begins with the roster of the report
pub record IsPlannedWith (report : List ℕ) (book : List Record) (text : List ℕ) : Type 0 where
  pub faultless : IsFaultless book
  pub start : List ℕ
  pub is_start : IsRosterOf (problem_of book) report start
  pub reports : IsPlanReport (problem_of book) start text

-- the text is a plan of the book, which begins with the roster of the report if there is one
abbrev pub IsPlanOfBook : Option (List ℕ) → List Record → List ℕ → Type 0
IsPlanOfBook None book text = IsPlanned book text
IsPlanOfBook (Some report) book text = IsPlannedWith report book text

-- the text answers the book that is to be planned so
abbrev pub IsAnswerTo : Option (List ℕ) → List Record → List ℕ → Type 0
IsAnswerTo None book text = IsPlanAnswer book text
IsAnswerTo (Some report) book text = IsRefusal Check book text ⊎ IsPlannedWith report book text

-- ---- how a run ends

abbrev pub IsFaultLine : ℕ → ℕ → List ℕ → Type 0
IsFaultLine row code text = text ≡ fault_text (record { row = row; code = code })

-- the report is refused
abbrev pub IsStartRefused : Status → Type 0
IsStartRefused (statuses.StartRefused line wrong) = Unit {0}
IsStartRefused _ = ⊥

-- it is, for what is told
abbrev pub IsRefusedFor : Option Told → Status → Type 0
IsRefusedFor told (statuses.StartRefused line wrong) = told ≡ Some (line, wrong)
IsRefusedFor told _ = ⊥

-- there is a report, and it is refused for what is wrong with it as one of the book
abbrev pub RefusesStart : Problem → Option (List ℕ) → Status → Type 0
RefusesStart problem None status = ⊥
RefusesStart problem (Some report) status = IsRefusedFor (fault_of_known problem report) status

-- so it is, and the book has no fault
pub record IsStartFault (report : Option (List ℕ)) (status : Status) (book : List Record) : Type 0 where
  pub faultless : IsFaultless book
  pub refuses : RefusesStart (problem_of book) report status

-- ---- what the first word of an answer says

-- an answer that begins with ROSTER is the report of the book's best roster
abbrev pub SaysBest : Type 0
SaysBest = (report : Option (List ℕ)) (book : List Record) (text : List ℕ) → IsAnswerTo report book text
    → take 6 text ≡ codes "ROSTER" → IsFaultless book × IsBestReport (problem_of book) text

-- and so is what is kept of a plan
abbrev pub SaysBestSoFar : Type 0
SaysBestSoFar = (problem : Problem) (text : List ℕ) → IsKnownText problem text → take 6 text ≡ codes "ROSTER"
    → IsBestReport problem text
