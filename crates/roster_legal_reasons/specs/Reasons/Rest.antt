-- A rest that is too short.
use Rattle.std.specs.Prelude.{◌≡◌, ℕ, ◌+◌, ◌-◌, ◌<◌, true, ◌||◌, List, Some, slice_get, max}
use Rattle.roster_model.specs.records.Base.{Base}
use Rattle.roster_model.specs.records.Duty.{Duty}
use Rattle.roster_model.specs.Rules.Rest.{least_rest, is_of_pairing, IsRested}
use Rattle.roster_legal_reasons.specs.declared.rules.rest.ShortRest.{ShortRest}

-- Between a and b, of which at least one belongs to a pairing, lie so many minutes of rest, and more are
-- needed: as many as the duty before it has, and the least rest.
pub record IsShort (home : Base) (a b : Duty) (short : ShortRest) : Type 0 where
  pub due : (is_of_pairing a.holder || is_of_pairing b.holder) ≡ true
  pub rest : short.rest ≡ b.report - a.release
  pub needed : short.needed ≡ max (a.release - a.report) (least_rest home b)
  pub less : short.rest < short.needed

-- and a is at place i
abbrev pub IsShortBetween : Base → Duty → Duty → ℕ → ShortRest → Type 0
IsShortBetween home a b i short = (short.before ≡ i) × IsShort home a b short

-- So it is between two neighbours of the list, and between those before them lies the rest that is
-- needed, if one is due.
pub record IsFirstShortRest (home : Base) (list : List Duty) (told : ShortRest) : Type 0 where
  pub a : Duty
  pub b : Duty
  pub at_before : slice_get list told.before ≡ Some a
  pub at_after : slice_get list (told.before + 1) ≡ Some b
  pub short : IsShort home a b told
  pub first : (j : ℕ) (c d : Duty) → j < told.before → slice_get list j ≡ Some c
      → slice_get list (j + 1) ≡ Some d
      → (is_of_pairing c.holder || is_of_pairing d.holder) ≡ true
      → IsRested home c d
