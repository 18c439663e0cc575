use Rattle.std.proofs.Common.{◌≡◌, ℕ, ◌<◌, true, Some}
use Rattle.std.specs.Prelude.{slice_get}
use Rattle.roster_model.specs.Calendar.{common}
use Rattle.roster_model.specs.records.Leave.{Leave, is_leave_of}
use Rattle.roster_legal_reasons.proofs.rules.leave.first_leave.Given as goal

-- the person's leaves so far share no minute with the duty
abbrev pub invariant-loop-place : goal.invariant-loop-place
invariant-loop-place l =
    (m : ℕ) (leave : Leave) → m < l.place → slice_get l.problem.leaves m ≡ Some leave → is_leave_of l.k leave ≡ true → common l.duty.report l.duty.release leave.from leave.to ≡ 0
