-- The rosters of some bases: nobody of another base flies.
use Rattle.std.specs.Prelude.{◌≡◌, ℕ, ◌<◌, Bool, false, List, [], length, ℤ, ◌≤ℤ◌}
use Rattle.roster_model.specs.Costs.{cost_of}
use Rattle.roster_model.specs.Places.{set_of}
use Rattle.roster_model.specs.Problem.{Problem}
use Rattle.roster_model.specs.Rosters.{IsLegalRoster}
use Rattle.roster_bases.specs.Bases.{base_of_person}

-- only persons of those bases fly
abbrev pub IsHome : Problem → (ℕ → Bool) → List ℕ → Type 0
IsHome problem bases places =
    (k : ℕ) → k < length problem.persons → bases (base_of_person problem k) ≡ false → set_of k places ≡ []

-- so it is with each legal roster in which only persons of those bases fly
abbrev pub EachHomeRoster : Problem → (ℕ → Bool) → (List ℕ → Type 0) → Type 0
EachHomeRoster problem bases Holds =
    (places : List ℕ) → IsLegalRoster problem places → IsHome problem bases places → Holds places

-- none of them costs less
abbrev pub IsHomeBound : Problem → (ℕ → Bool) → ℤ → Type 0
IsHomeBound problem bases bound = EachHomeRoster problem bases (λ places. bound ≤ℤ cost_of problem places)
