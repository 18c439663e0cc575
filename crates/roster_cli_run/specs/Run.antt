-- What is answered to a problem, and how a run ends.
use Rattle.std.specs.Prelude.{◌≡◌, ◌⊎◌, ℕ, List, Option, None, Some, Result, Ok, Err, codes}
use Rattle.roster_model.specs.Answer.{IsProblemFault, Reports}
use Rattle.roster_model.specs.Faults.{Fault}
use Rattle.roster_model.specs.Problem.{Problem}
use Rattle.roster_model.specs.Record.{Command}
use Rattle.roster_model.specs.Texts.{fault_text}
use Rattle.roster_report.specs.declared.fault.TextFault.{TextFault}
use Rattle.roster_report.specs.declared.fault.TextFault.TheVariants as faults
use Rattle.roster_cli_run.specs.declared.status.Status.{Status}
use Rattle.roster_cli_run.specs.declared.status.Status.TheVariants as statuses

-- ---- what is answered to a problem, and to the roster that the book gives

abbrev pub IsFaultLine : ℕ → ℕ → List ℕ → Type 0
IsFaultLine row code text = text ≡ fault_text (record { row = row; code = code })

-- the problem has no fault, and the text is what the command reports of it
pub record IsProblemReport (command : Command) (problem : Problem) (assigned : List ℕ)
    (text : List ℕ) : Type 0 where
  pub faultless : (fault : Fault) → ¬ IsProblemFault command problem fault
  pub reports : Reports command problem assigned text

-- the text tells the fault of the problem
pub record IsProblemRefusal (command : Command) (problem : Problem) (text : List ℕ) : Type 0 where
  pub fault : Fault
  pub told : IsProblemFault command problem fault
  pub written : text ≡ fault_text fault

abbrev pub IsProblemAnswer : Command → Problem → List ℕ → List ℕ → Type 0
IsProblemAnswer command problem assigned text =
    IsProblemRefusal command problem text ⊎ IsProblemReport command problem assigned text

-- ---- how a run ends

-- how a run ends that wrote a report
abbrev pub status_of : Result Unit TextFault → Status
status_of (Ok written) = statuses.Answered
status_of (Err faults.Memory) = statuses.Memory
status_of (Err faults.Device) = statuses.WriteFailed

-- the exit status of each outcome
abbrev pub exit_number : Status → ℕ
exit_number statuses.Answered = 0
exit_number statuses.Refused = 1
exit_number statuses.Memory = 3
exit_number statuses.ReadFailed = 4
exit_number statuses.WriteFailed = 4

-- what standard error is told of each outcome
abbrev pub message_text : Status → Option (List ℕ)
message_text statuses.Answered = None
message_text statuses.Refused = None
message_text statuses.Memory = Some (codes "error: memory")
message_text statuses.ReadFailed = Some (codes "error: read")
message_text statuses.WriteFailed = Some (codes "error: write")
