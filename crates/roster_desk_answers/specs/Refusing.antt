-- For what a report is refused.
use Rattle.std.specs.Prelude.{◌≡◌, ⊤, ℕ, List}
use Rattle.std.specs.Borrow.{Bor}
use Rattle.roster_desk_reports.specs.Faults.{Told}
use Rattle.roster_desk_reports.specs.declared.fault.ReportFault.{ReportFault}
use Rattle.roster_desk_reports.specs.declared.fault.ReportFault.TheVariants as faults
use Rattle.roster_desk_answers.specs.declared.untold.Untold.{Untold}
use Rattle.roster_desk_answers.specs.declared.untold.Untold.TheVariants as untolds

-- what is told of the fault of a report at a path
abbrev pub untold_of : Bor (List ℕ) → ReportFault → Untold
untold_of path (faults.At line wrong) = untolds.Report path (faults.At line wrong)
untold_of path faults.Memory = untolds.Memory

-- a line is told, and what is wrong with it
abbrev pub IsFault : (Told → Type 0) → ReportFault → Type 0
IsFault IsWrong (faults.At line wrong) = IsWrong (line, wrong)
IsFault IsWrong faults.Memory = ⊥

-- so it is, or memory ran out
abbrev pub MayTell : (Told → Type 0) → ReportFault → Type 0
MayTell IsWrong (faults.At line wrong) = IsWrong (line, wrong)
MayTell IsWrong faults.Memory = ⊤

-- the report at the path is refused for what is wrong with it; memory may run out wherever
abbrev pub RefusesReport : List ℕ → (Told → Type 0) → Untold → Type 0
RefusesReport path IsWrong (untolds.Unknown unknown) = ⊥
RefusesReport path IsWrong (untolds.Report at fault) = (at.now ≡ path) × IsFault IsWrong fault
RefusesReport path IsWrong (untolds.Words sentence) = ⊥
RefusesReport path IsWrong (untolds.Faulty text) = ⊥
RefusesReport path IsWrong untolds.Unlike = ⊥
RefusesReport path IsWrong (untolds.Names text) = ⊥
RefusesReport path IsWrong untolds.Memory = ⊤
