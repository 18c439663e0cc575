-- Duties as the recovery rule sees them.
use Rattle.std.specs.Prelude.{◌≡◌, ℕ, ◌+◌, ◌≤◌, ◌↔◌, Bool, nat_le, List, Some, length, slice_get, slice_index, max}
use Rattle.roster_model.specs.declared.limits.TheConstants.{LAST_INSTANT}
use Rattle.roster_model.specs.declared.profile.TheConstants.{NIGHT_REST}
use Rattle.roster_model.specs.Calendar.{Days, month_start}
use Rattle.roster_model.specs.records.Duty.{Duty}
use Rattle.roster_model.specs.Rules.Recovery.{IsRecurrent}
use Rattle.roster_problem.specs.Duties.{picked}
use Rattle.roster_restrules.specs.declared.times.DutyTimes.{DutyTimes}

-- the first instant up to which the time from one on has enough minutes of night i,
abbrev pub held_by : Days → ℕ → ℕ → ℕ
held_by days from i = max from (slice_index days.ten i) + NIGHT_REST

-- and whether that lies in the night
abbrev pub can_hold : Days → ℕ → ℕ → Bool
can_hold days from i = nat_le (held_by days from i) (slice_index days.eight (i + 1))

-- The time from one instant to another is a recurrent rest exactly if it reaches the instant `rested`.
abbrev pub IsRestedBy : Days → ℕ → ℕ → Type 0
IsRestedBy days from rested = (to : ℕ) → to ≤ LAST_INSTANT → (IsRecurrent days from to ↔ (rested ≤ to))

-- what is known of a duty
pub record AreTimesOf (days : Days) (duty : Duty) (times : DutyTimes) : Type 0 where
  pub report : times.report ≡ duty.report
  pub release : times.release ≡ duty.release
  pub rested : IsRestedBy days duty.release times.rested

-- and of each of some duties
pub record AreTimesOfEach (days : Days) (duties : List Duty) (times : List DutyTimes) : Type 0 where
  pub covers : length times ≡ length duties
  pub each : (i : ℕ) (duty : Duty) (at : DutyTimes) → slice_get duties i ≡ Some duty
      → slice_get times i ≡ Some at → AreTimesOf days duty at

-- what is known of some duties by the clocks of a base
pub record IsTimed (days : Days) (duties : List Duty) (start : ℕ) (times : List DutyTimes) : Type 0 where
  pub begins : start ≡ month_start days
  pub each : AreTimesOfEach days duties times

-- duties by the clocks of a base
pub record Timed : Type 0 where
  pub days : Days
  pub duties : List Duty

-- that is what is known of the i-th of the duties at the positions
abbrev pub IsAt : Timed → List ℕ → ℕ → DutyTimes → Type 0
IsAt timed positions i at =
    (duty : Duty) → slice_get (picked timed.duties positions) i ≡ Some duty → AreTimesOf timed.days duty at
