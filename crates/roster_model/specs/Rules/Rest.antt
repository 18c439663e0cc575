-- Rest: ORO.FTL.235(a)(1) and (b) of Regulation (EU) No 83/2014 in this project's profile.
use Rattle.std.specs.Prelude.{◌≡◌, ℕ, ◌+◌, ◌-◌, ◌≤◌, true, false, ◌||◌, if◌then◌else◌, List, Some, slice_get, max, Bool}
use Rattle.std.specs.Str.{bytes_eq}
use Rattle.roster_model.specs.declared.profile.TheConstants.{REST_AT_HOME, REST_AWAY}
use Rattle.roster_model.specs.records.Base.{Base}
use Rattle.roster_model.specs.records.Duty.{Duty, Holder, OfPairing, OfPerson}

-- The least rest before a duty, in minutes: the longer one if it reports at home, and the shorter
-- one away from base. (ORO.FTL.235(a)(1) and (b).)
abbrev pub least_rest : Base → Duty → ℕ
least_rest home next = if bytes_eq next.station home.id then REST_AT_HOME else REST_AWAY

-- Between a and b lies a rest at least as long as the duty before it and the least rest.
abbrev pub IsRested : Base → Duty → Duty → Type 0
IsRested home a b = a.release + max (a.release - a.report) (least_rest home b) ≤ b.report

abbrev pub is_of_pairing : Holder → Bool
is_of_pairing (OfPairing p) = true
is_of_pairing (OfPerson k) = false

-- Between any two neighbours of which at least one belongs to a pairing lies such a rest.
abbrev pub KeepsRest : Base → List Duty → Type 0
KeepsRest home list = (i : ℕ) (a b : Duty) → slice_get list i ≡ Some a → slice_get list (i + 1) ≡ Some b
    → (is_of_pairing a.holder || is_of_pairing b.holder) ≡ true → IsRested home a b
