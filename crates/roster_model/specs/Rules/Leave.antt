-- Leave (this project's own): a person on leave has no duty.
use Rattle.std.specs.Prelude.{◌≡◌, List, All}
use Rattle.roster_model.specs.Calendar.{common}
use Rattle.roster_model.specs.records.Duty.{Duty}
use Rattle.roster_model.specs.records.Leave.{Leave}

-- A duty shares no minute with any of the leaves.
abbrev pub IsOffLeave : List Leave → Duty → Type 0
IsOffLeave leaves duty = All (λ leave. common duty.report duty.release leave.from leave.to ≡ 0) leaves

-- No duty of the list shares a minute with one of the leaves.
abbrev pub KeepsLeave : List Leave → List Duty → Type 0
KeepsLeave leaves list = All (IsOffLeave leaves) list
