-- The days of the month on which duties lie, as a word of bits.
use Rattle.std.specs.Prelude.{◌≡◌, ℕ, ◌+◌, ◌<◌, ◌↔◌, Bool, ◌==◌, nat_lt, List, slice_index}
use Rattle.std.specs.Int.{bit_at}
use Rattle.std.specs.List.{list_any}
use Rattle.roster_model.specs.declared.limits.TheConstants.{DAYS_BEFORE}
use Rattle.roster_model.specs.Calendar.{Days, common}
use Rattle.roster_model.specs.records.Duty.{Duty}

-- whether the duty shares a minute with day i of the month, counted from 0
abbrev pub lies_on : Days → ℕ → Duty → Bool
lies_on days i duty =
    nat_lt 0 (common duty.report duty.release (slice_index days.mid (DAYS_BEFORE + i)) (slice_index days.mid (DAYS_BEFORE + i + 1)))

-- whether a duty of the list does
abbrev pub is_busy : Days → List Duty → ℕ → Bool
is_busy days list i = list_any (lies_on days i) list

-- The bit of each day of the month is set exactly if a duty of the list shares a minute with that day.
-- Of other bits nothing is said.
abbrev pub AreBusyDays : Days → List Duty → ℕ → Type 0
AreBusyDays days list word = (i : ℕ) → i < days.month_days → (bit_at word i == 1) ≡ is_busy days list i

-- The set bits are those of the days of a month of n days that are not busy, and whose next day is a
-- day of the month that is not busy.
abbrev pub ArePairsOff : ℕ → ℕ → ℕ → Type 0
ArePairsOff n busy word =
    (i : ℕ) → (bit_at word i ≡ 1) ↔ ((i + 1 < n) × (bit_at busy i ≡ 0) × (bit_at busy (i + 1) ≡ 0))
