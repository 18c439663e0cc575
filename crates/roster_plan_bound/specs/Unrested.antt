-- Duties between which no recurrent rest lies.
use Rattle.std.specs.Prelude.{◌≡◌, ℕ, ◌<◌, ◌≤◌, List, Some, slice_get}
use Rattle.roster_model.specs.Calendar.{Days}
use Rattle.roster_model.specs.records.Duty.{Duty}
use Rattle.roster_model.specs.Rules.Recovery.{HasRestAfter}

-- From a duty of the list that reports at that instant up to `last` no recurrent rest lies between neighbours.
pub record IsUnrested (days : Days) (list : List Duty) (begin : ℕ) (last : Duty) : Type 0 where
  pub from : ℕ
  pub to : ℕ
  pub first : Duty
  pub order : from ≤ to
  pub begins : slice_get list from ≡ Some first
  pub reports : first.report ≡ begin
  pub ends : slice_get list to ≡ Some last
  pub unrested : (k : ℕ) → from ≤ k → k < to → ¬ HasRestAfter days list k
