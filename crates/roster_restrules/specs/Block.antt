-- Blocks of duties between recurrent rests, and the rule on them.
use Rattle.std.specs.Prelude.{◌≡◌, ℕ, ◌+◌, ◌<◌, ◌≤◌, List, Some, slice_get}
use Rattle.roster_model.specs.declared.profile.TheConstants.{BETWEEN_RECURRENT_RESTS}
use Rattle.roster_model.specs.Calendar.{Days, month_start}
use Rattle.roster_model.specs.records.Duty.{Duty}
use Rattle.roster_model.specs.Rules.Recovery.{HasRestAfter}

-- The duties from `first` to `last` have no recurrent rest between them, and `first` is the list's
-- first duty or follows a recurrent rest.
pub record IsBlock (days : Days) (list : List Duty) (first last : ℕ) : Type 0 where
  pub order : first ≤ last
  pub unbroken : (k : ℕ) → first ≤ k → k < last → ¬ HasRestAfter days list k
  pub begins : (k : ℕ) → k + 1 ≡ first → HasRestAfter days list k

-- The rule for the duties of the list up to the one at place j.
abbrev pub EndsInTime : Days → List Duty → ℕ → Type 0
EndsInTime days list j = (i : ℕ) (a b : Duty) → i ≤ j → slice_get list i ≡ Some a
    → slice_get list j ≡ Some b → ((k : ℕ) → i ≤ k → k < j → ¬ HasRestAfter days list k)
    → month_start days < b.release → b.release ≤ a.report + BETWEEN_RECURRENT_RESTS
