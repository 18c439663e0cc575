-- Days off: ORO.FTL.235(d), last sentence, of Regulation (EU) No 83/2014 in this project's profile. At
-- least twice every month a rest is increased to two local days. Here: two days of the month in a row
-- without any duty, and two more after them. (Local day: from 00:00 to 24:00 local time, ORO.FTL.105.)
use Rattle.std.specs.Prelude.{◌≡◌, ℕ, ◌+◌, ◌≤◌, List, All, slice_index}
use Rattle.roster_model.specs.declared.limits.TheConstants.{DAYS_BEFORE}
use Rattle.roster_model.specs.Calendar.{Days, common}
use Rattle.roster_model.specs.records.Duty.{Duty}

-- No duty of the list shares a minute with the time from one instant to another.
abbrev pub IsFreeFrom : ℕ → ℕ → List Duty → Type 0
IsFreeFrom from to list = All (λ duty. common duty.report duty.release from to ≡ 0) list

-- Days i and i + 1 are days of the month, and no duty of the list shares a minute with them.
pub record IsPairOff (days : Days) (list : List Duty) (i : ℕ) : Type 0 where
  pub begins : DAYS_BEFORE ≤ i
  pub ends : i + 2 ≤ DAYS_BEFORE + days.month_days
  pub free : IsFreeFrom (slice_index days.mid i) (slice_index days.mid (i + 2)) list

-- There are two such pairs that share no day. The one may begin where the other ends.
pub record KeepsDaysOff (days : Days) (list : List Duty) : Type 0 where
  pub first : ℕ
  pub second : ℕ
  pub apart : first + 2 ≤ second
  pub once : IsPairOff days list first
  pub twice : IsPairOff days list second
