-- What is left to decide in a region, and the roster if nothing is.
use Rattle.std.specs.Prelude.{◌≡◌, ℕ, List, slice_index, All}
use Rattle.roster_model.specs.Problem.{Problem}
use Rattle.roster_model.specs.Rules.{is_among}
use Rattle.roster_search_regions.specs.Regions.{AllowedLine, IsIn, Region}

-- the lines have the same pairings
abbrev pub AgreesOn : List AllowedLine → Type 0
AgreesOn lines = (set : List ℕ) × All (λ line. (p : ℕ) → is_among line.set p ≡ is_among set p) lines

-- the number of the pairing at place p in each roster of the region
abbrev pub IsNumberOf : Problem → Region → ℕ → ℕ → Type 0
IsNumberOf problem region p number =
    (places : List ℕ) → IsIn problem region places → slice_index places p ≡ number

-- each roster of the region is this one
abbrev pub IsOnlyIn : Problem → Region → List ℕ → Type 0
IsOnlyIn problem region places = (others : List ℕ) → IsIn problem region others → others ≡ places
