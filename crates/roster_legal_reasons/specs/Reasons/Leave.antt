-- A duty in a leave.
use Rattle.std.specs.Prelude.{◌≡◌, ℕ, ◌<◌, true, List, Some, slice_get}
use Rattle.roster_model.specs.Calendar.{common}
use Rattle.roster_model.specs.Problem.{Problem, leaves_of}
use Rattle.roster_model.specs.Rules.Leave.{IsOffLeave}
use Rattle.roster_model.specs.records.Duty.{Duty}
use Rattle.roster_model.specs.records.Leave.{Leave, is_leave_of}
use Rattle.roster_legal_reasons.specs.declared.rules.leave.DutyInLeave.{DutyInLeave}

-- The duty shares so many minutes with the leave, which is one of person k.
pub record IsShared (k : ℕ) (duty : Duty) (leave : Leave) (told : ℕ) : Type 0 where
  pub of_person : is_leave_of k leave ≡ true
  pub minutes : told ≡ common duty.report duty.release leave.from leave.to
  pub some : 0 < told

-- The duty, which is at place i of a list, shares minutes with the leave that is told, and with no leave of
-- person k before it.
pub record IsFirstLeaveOf (leaves : List Leave) (k : ℕ) (duty : Duty) (i : ℕ)
    (told : DutyInLeave) : Type 0 where
  pub place : told.duty ≡ i
  pub leave : Leave
  pub at_leave : slice_get leaves told.leave ≡ Some leave
  pub shared : IsShared k duty leave told.minutes
  pub first : (m : ℕ) (other : Leave) → m < told.leave → slice_get leaves m ≡ Some other
      → is_leave_of k other ≡ true
      → common duty.report duty.release other.from other.to ≡ 0

-- It is a duty of the list, and those before it share no minute with a leave of person k.
pub record IsFirstDutyInLeave (problem : Problem) (k : ℕ) (list : List Duty)
    (told : DutyInLeave) : Type 0 where
  pub duty : Duty
  pub at_duty : slice_get list told.duty ≡ Some duty
  pub in_leave : IsFirstLeaveOf problem.leaves k duty told.duty told
  pub first : (i : ℕ) (earlier : Duty) → i < told.duty → slice_get list i ≡ Some earlier
      → IsOffLeave (leaves_of problem k) earlier
