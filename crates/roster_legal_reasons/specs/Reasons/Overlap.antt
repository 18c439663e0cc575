-- Two duties that overlap.
use Rattle.std.specs.Prelude.{◌≡◌, ℕ, ◌+◌, ◌<◌, List, Some, slice_get}
use Rattle.roster_model.specs.Calendar.{common}
use Rattle.roster_model.specs.records.Duty.{Duty}
use Rattle.roster_legal_reasons.specs.declared.rules.overlap.SharedDuties.{SharedDuties}

-- Two neighbours a and b of the list share so many minutes. No two duties before b share a minute, nor
-- does b share one with a duty before a.
pub record IsFirstOverlap (list : List Duty) (shared : SharedDuties) : Type 0 where
  pub a : Duty
  pub b : Duty
  pub at_first : slice_get list shared.first ≡ Some a
  pub at_second : slice_get list shared.second ≡ Some b
  pub neighbours : shared.second ≡ shared.first + 1
  pub minutes : shared.minutes ≡ common a.report a.release b.report b.release
  pub some : 0 < shared.minutes
  pub first : (m n : ℕ) (c d : Duty) → m < n → n < shared.second → slice_get list m ≡ Some c
      → slice_get list n ≡ Some d
      → common c.report c.release d.report d.release ≡ 0
  pub alone : (m : ℕ) (c : Duty) → m < shared.first → slice_get list m ≡ Some c
      → common c.report c.release b.report b.release ≡ 0
