-- When persons are busy: with their fixed duties, and on their leaves.
use Rattle.std.specs.Prelude.{ℕ, Bool, List, ◌++◌, filter, map, nat_lt}
use Rattle.std.specs.List.{list_any}
use Rattle.roster_model.specs.Calendar.{common}
use Rattle.roster_model.specs.records.Duty.{Duty, is_held_by_person}
use Rattle.roster_model.specs.records.Leave.{Leave}
use Rattle.roster_model.specs.Problem.{Problem, leaves_of}

-- the time from one instant to another
pub record Interval : Type 0 where
  pub from : ℕ
  pub to : ℕ

abbrev pub time_of_duty : Duty → Interval
time_of_duty duty = record { from = duty.report; to = duty.release }

abbrev pub time_of_leave : Leave → Interval
time_of_leave leave = record { from = leave.from; to = leave.to }

-- the times at which the person at place k is busy
abbrev pub busy_times : Problem → ℕ → List Interval
busy_times tables k =
    map time_of_duty (filter (λ duty. is_held_by_person k duty.holder) tables.duties)
    ++ map time_of_leave (leaves_of tables k)

-- it shares a minute with the time from one instant to another
abbrev pub shares_minute : ℕ → ℕ → Interval → Bool
shares_minute from to time = nat_lt 0 (common time.from time.to from to)

-- the person at place k is busy in a minute of the time from one instant to another
abbrev pub is_busy : Problem → ℕ → ℕ → ℕ → Bool
is_busy tables k from to = list_any (shares_minute from to) (busy_times tables k)
