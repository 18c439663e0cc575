-- Runs of days with too many minutes, or with the most.
use Rattle.std.specs.Prelude.{◌≡◌, ℕ, ◌<◌, ◌≤◌, length}
use Rattle.roster_model.specs.declared.limits.TheConstants.{DAYS_BEFORE}
use Rattle.roster_model.specs.Calendar.{Days}
use Rattle.roster_model.specs.Sums.{in_run}
use Rattle.roster_legal_reasons.specs.declared.runs.RunOfDays.{RunOfDays}

-- What is told is a judged run of n days with its minutes, where each day has some, and the limit of them.
pub record IsRun (on_day : ℕ → ℕ) (days : Days) (n limit : ℕ) (told : RunOfDays) : Type 0 where
  pub begins : DAYS_BEFORE ≤ told.last
  pub ends : told.last < length days.eight
  pub minutes : told.minutes ≡ in_run on_day n told.last
  pub most : told.most ≡ limit

-- It has more than there may be, and those that end before it don't.
pub record IsFirstRunOver (on_day : ℕ → ℕ) (days : Days) (n limit : ℕ) (told : RunOfDays) : Type 0 where
  pub run : IsRun on_day days n limit told
  pub over : limit < told.minutes
  pub first : (last : ℕ) → DAYS_BEFORE ≤ last → last < told.last → in_run on_day n last ≤ limit

-- No judged run has more, and those that end before it have less.
pub record IsGreatestRun (on_day : ℕ → ℕ) (days : Days) (n limit : ℕ) (told : RunOfDays) : Type 0 where
  pub run : IsRun on_day days n limit told
  pub greatest : (last : ℕ) → DAYS_BEFORE ≤ last → last < length days.eight
      → in_run on_day n last ≤ told.minutes
  pub first : (last : ℕ) → DAYS_BEFORE ≤ last → last < told.last → in_run on_day n last < told.minutes
