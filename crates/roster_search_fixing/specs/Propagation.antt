-- What the lines that are left say of who has a pairing.
use Rattle.std.specs.Prelude.{◌≡◌, ◌≢◌, ℕ, ◌<◌, false, length, List, Option, Some, None}
use Rattle.std.specs.List.{list_all, list_any}
use Rattle.roster_model.specs.Places.{open_number}
use Rattle.roster_model.specs.Problem.{Problem}
use Rattle.roster_model.specs.Rules.{is_among}
use Rattle.roster_search_regions.specs.Regions.{lines_of, Has, HasNot, IsIn, IsWhollyIn, Region}
use Rattle.roster_search_fixing.specs.declared.propagate.Holders.{Holders}
use Rattle.roster_search_fixing.specs.declared.propagate.Holders.TheVariants.{Nobody, One, Several}

-- none of the person's lines has the pairing
abbrev pub Lacks : Region → ℕ → ℕ → Type 0
Lacks region p k = list_any (λ line. is_among line.set p) (lines_of region k) ≡ false

-- not all of the person's lines have the pairing, if there are any
abbrev pub IsUncertain : Region → ℕ → ℕ → Type 0
IsUncertain region p k =
    0 < length (lines_of region k) → list_all (λ line. is_among line.set p) (lines_of region k) ≡ false

-- of the persons before k none may have it, or only this one
abbrev pub IsSoleBefore : Region → ℕ → ℕ → Option ℕ → Type 0
IsSoleBefore region p k None = (j : ℕ) → j < k → Lacks region p j
IsSoleBefore region p k (Some sole) = (sole < k) × ((j : ℕ) → j < k → j ≢ sole → Lacks region p j)

-- who may have it: then it is open, or theirs unless it is open
abbrev pub AreHolders : Problem → Region → ℕ → Holders → Type 0
AreHolders problem region p Nobody = IsWhollyIn problem region (Has (open_number problem) p)
AreHolders problem region p (One k) =
    (k < length problem.persons)
    × IsWhollyIn problem region (λ places. HasNot (open_number problem) p places → Has k p places)
AreHolders problem region p Several = Unit {0}

-- no condition: all rosters meet it
abbrev pub Anything : List ℕ → Type 0
Anything places = Unit {0}

-- no roster is in the region
abbrev pub IsEmpty : Problem → Region → Type 0
IsEmpty problem region = (places : List ℕ) → ¬ IsIn problem region places
