-- What is told of the fault of a report.
use Rattle.std.proofs.Common.{◌≡◌, ℕ, List, Option, Some, refl}
use Rattle.std.specs.Borrow.{Bor}
use Rattle.roster_desk_reports.specs.Faults.{IsTold, Told}
use Rattle.roster_desk_reports.specs.declared.fault.ReportFault.{ReportFault}
use Rattle.roster_desk_reports.specs.declared.fault.ReportFault.TheVariants as faults
use Rattle.roster_desk_answers.specs.Refusing.{MayTell, RefusesReport, untold_of}

-- what is told is what is wrong
pub may_tell : (told : Option Told) (fault : ReportFault) → IsTold told fault → MayTell (λ one. told ≡ Some one) fault
may_tell told (faults.At line wrong) is = is
may_tell told faults.Memory is = is

-- so it is behind the path
pub refuses : (path : Bor (List ℕ)) (IsWrong : Told → Type 0) (fault : ReportFault) → MayTell IsWrong fault
    → RefusesReport path.now IsWrong (untold_of path fault)
refuses path IsWrong (faults.At line wrong) is = (refl, is)
refuses path IsWrong faults.Memory is = is
