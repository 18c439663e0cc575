-- Recovery: ORO.FTL.235(d), first two sentences, of Regulation (EU) No 83/2014 in this project's
-- profile. Flight time specification schemes provide recurrent extended recovery rest periods
-- (here: recurrent rests), each of at least 36 hours that include two local nights, and the time from
-- the end of one to the start of the next is never more than 168 hours. (Local night: 8 hours between
-- 22:00 and 08:00, ORO.FTL.105.)
use Rattle.std.specs.Prelude.{◌≡◌, ℕ, ◌+◌, ◌-◌, ◌<◌, ◌≤◌, Bool, nat_le, List, length, Some, slice_get, slice_index}
use Rattle.std.specs.List.{count_by, range_with_len}
use Rattle.roster_model.specs.declared.profile.TheConstants.{RECURRENT_REST, RECURRENT_NIGHTS, NIGHT_REST, BETWEEN_RECURRENT_RESTS}
use Rattle.roster_model.specs.Calendar.{Days, common, month_start}
use Rattle.roster_model.specs.records.Duty.{Duty}

-- the nights of the window: night i reaches from 22:00 on day i to 08:00 on the next day
abbrev pub nights : Days → List ℕ
nights days = range_with_len 0 (length days.eight - 1)

-- the time from one instant to another holds night i: enough minutes of the night lie in it
abbrev pub holds_night : Days → ℕ → ℕ → ℕ → Bool
holds_night days from to i =
    nat_le NIGHT_REST (common from to (slice_index days.ten i) (slice_index days.eight (i + 1)))

-- The time from one instant to another, without duty, is a recurrent rest.
pub record IsRecurrent (days : Days) (from to : ℕ) : Type 0 where
  pub long : from + RECURRENT_REST ≤ to
  pub nights : RECURRENT_NIGHTS ≤ count_by (holds_night days from to) (nights days)

-- A recurrent rest lies between the neighbours at k and k + 1 of the list.
pub record HasRestAfter (days : Days) (list : List Duty) (k : ℕ) : Type 0 where
  pub last : Duty
  pub next : Duty
  pub before : slice_get list k ≡ Some last
  pub after : slice_get list (k + 1) ≡ Some next
  pub recurrent : IsRecurrent days last.release next.report

-- At most 168 hours (`BETWEEN_RECURRENT_RESTS`) lie from the report of a duty a to the release of a
-- duty b, which is a or comes later, if no recurrent rest lies between them and b ends after the month
-- begins.
abbrev pub KeepsRecovery : Days → List Duty → Type 0
KeepsRecovery days list = (i j : ℕ) (a b : Duty) → i ≤ j → slice_get list i ≡ Some a
    → slice_get list j ≡ Some b → ((k : ℕ) → i ≤ k → k < j → ¬ HasRestAfter days list k)
    → month_start days < b.release → b.release ≤ a.report + BETWEEN_RECURRENT_RESTS
