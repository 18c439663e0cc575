use Rattle.std.proofs.Common.{◌≡◌, ℕ, ◌<◌, Some}
use Rattle.std.specs.Prelude.{slice_get}
use Rattle.roster_model.specs.Problem.{leaves_of}
use Rattle.roster_model.specs.Rules.Leave.{IsOffLeave}
use Rattle.roster_model.specs.records.Duty.{Duty}
use Rattle.roster_legal_reasons.proofs.rules.leave.first_duty_in_leave.Given as goal

-- the duties so far share no minute with a leave of the person
abbrev pub invariant-loop-i : goal.invariant-loop-i
invariant-loop-i l =
    (j : ℕ) (duty : Duty) → j < l.i → slice_get l.list j ≡ Some duty → IsOffLeave (leaves_of l.problem l.k) duty
