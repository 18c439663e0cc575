-- Too long without a recurrent rest.
use Rattle.std.specs.Prelude.{◌≡◌, ℕ, ◌-◌, ◌<◌, List, Some, slice_get}
use Rattle.roster_model.specs.declared.profile.TheConstants.{BETWEEN_RECURRENT_RESTS}
use Rattle.roster_model.specs.Calendar.{Days, month_start}
use Rattle.roster_model.specs.records.Duty.{Duty}
use Rattle.roster_restrules.specs.Block.{EndsInTime, IsBlock}
use Rattle.roster_legal_reasons.specs.declared.rules.recovery.LongBlock.{LongBlock}

-- b ends after the month begins, and so many minutes lie from the report of a to its release, too many.
pub record IsLong (start : ℕ) (a b : Duty) (told : ℕ) : Type 0 where
  pub late : start < b.release
  pub minutes : told ≡ b.release - a.report
  pub over : BETWEEN_RECURRENT_RESTS < told

-- and a and b are at these places
abbrev pub IsLongBetween : ℕ → Duty → Duty → ℕ → ℕ → LongBlock → Type 0
IsLongBetween start a b first last block =
    (block.first ≡ first) × (block.last ≡ last) × IsLong start a b block.minutes

-- The duties from a to b have no recurrent rest between them, and take too long; a is the list's first duty
-- or follows a recurrent rest. The duties before b end in time.
pub record IsFirstLongBlock (days : Days) (list : List Duty) (told : LongBlock) : Type 0 where
  pub a : Duty
  pub b : Duty
  pub at_first : slice_get list told.first ≡ Some a
  pub at_last : slice_get list told.last ≡ Some b
  pub block : IsBlock days list told.first told.last
  pub long : IsLong (month_start days) a b told.minutes
  pub first : (j : ℕ) → j < told.last → EndsInTime days list j
