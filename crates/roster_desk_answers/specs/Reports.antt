-- The records of a report.
use Rattle.std.specs.Prelude.{◌≡◌, ℕ, List, [], None, Option, Some, map}
use Rattle.std.specs.List.{flat_map}
use Rattle.std.specs.Option.{option_or}
use Rattle.roster_desk_reports.specs.Faults.{Told, fault_of_text, records_fault}
use Rattle.roster_desk_reports.specs.Text.{assigns_of, given_by_text, numbered_by_line, numbered_by_text}
use Rattle.roster_desk_reports.specs.declared.report.CrewLine.{CrewLine}

-- these are the lines of the report, if it is one
abbrev pub AreLines : List ℕ → List CrewLine → Type 0
AreLines report crew = fault_of_text report ≡ None → map numbered_by_line crew ≡ numbered_by_text report

-- what is wrong with it as one of which records are made: with a line, or with what lines give a second time
abbrev pub wrong_in : List ℕ → List CrewLine → Option Told
wrong_in report crew = option_or (fault_of_text report) (records_fault [] crew)

-- nothing is wrong with the report, and these are its records
pub record AreAssigns (report text : List ℕ) : Type 0 where
  pub crew : List CrewLine
  pub lines : AreLines report crew
  pub sound : wrong_in report crew ≡ None
  pub records : text ≡ flat_map assigns_of (given_by_text report)

-- this is wrong with it
pub record IsWrong (report : List ℕ) (told : Told) : Type 0 where
  pub crew : List CrewLine
  pub lines : AreLines report crew
  pub wrong : wrong_in report crew ≡ Some told
