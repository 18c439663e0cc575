-- Who has which pairing by a report, and what a roster has of it.
use Rattle.std.specs.Prelude.{ℕ, List, Some, true, length, All, slice_get, ◌≡◌, ◌<◌, ◌≤◌, ◌⊎◌}
use Rattle.std.specs.List.{list_any}
use Rattle.std.specs.Str.{bytes_eq}
use Rattle.roster_model.specs.Problem.{Problem}
use Rattle.roster_model.specs.Record.{place_named}
use Rattle.roster_desk_reports.specs.Text.{Given}

-- Person k of the book has the name.
abbrev pub IsPerson : Problem → List ℕ → ℕ → Type 0
IsPerson problem name k = place_named (λ person. person.id) name problem.persons ≡ Some k

-- The pairing at place p has the name.
abbrev pub IsPairing : Problem → List ℕ → ℕ → Type 0
IsPairing problem name p = place_named (λ pairing. pairing.id) name problem.pairings ≡ Some p

-- ---- what the roster has

-- The book has a pairing of the name, and the roster has the number there.
abbrev pub HasPairing : Problem → List ℕ → ℕ → List ℕ → Type 0
HasPairing problem places number name =
    (p : ℕ) × IsPairing problem name p × (slice_get places p ≡ Some number)

-- So it is with the first names, so many of them.
abbrev pub HasNames : Problem → List ℕ → ℕ → List (List ℕ) → ℕ → Type 0
HasNames problem places number names count =
    (i : ℕ) (name : List ℕ) → i < count → slice_get names i ≡ Some name
    → HasPairing problem places number name

-- The book has the person who is given something, and each pairing that is given is theirs.
abbrev pub HasGiven : Problem → List ℕ → Given → Type 0
HasGiven problem places given =
    (k : ℕ) × (k < length problem.persons) × IsPerson problem given.0 k
    × HasNames problem places k given.1 (length given.1)

-- So it is with the first that are given something.
abbrev pub HasFirst : Problem → List ℕ → List Given → ℕ → Type 0
HasFirst problem places list count =
    (i : ℕ) (given : Given) → i < count → slice_get list i ≡ Some given → HasGiven problem places given

-- So it is with all of them.
abbrev pub HasAll : Problem → List ℕ → List Given → Type 0
HasAll problem places list =
    (i : ℕ) (given : Given) → slice_get list i ≡ Some given → HasGiven problem places given

-- ---- what the report gives

-- One of the first names is that of the pairing.
abbrev pub IsAmongNames : Problem → List (List ℕ) → ℕ → ℕ → Type 0
IsAmongNames problem names count p =
    (i : ℕ) × (name : List ℕ) × (i < count) × (slice_get names i ≡ Some name) × IsPairing problem name p

-- Person k is given the pairing here.
abbrev pub GivesPairing : Problem → Given → ℕ → ℕ → Type 0
GivesPairing problem given p k = IsPerson problem given.0 k × IsAmongNames problem given.1 (length given.1) p

-- So it is at one of the first.
abbrev pub IsGivenFirst : Problem → List Given → ℕ → ℕ → ℕ → Type 0
IsGivenFirst problem list count p k =
    (i : ℕ) × (given : Given) × (i < count) × (slice_get list i ≡ Some given) × GivesPairing problem given p k

-- So it is somewhere.
abbrev pub IsGiven : Problem → List Given → ℕ → ℕ → Type 0
IsGiven problem list p k =
    (i : ℕ) × (given : Given) × (slice_get list i ≡ Some given) × GivesPairing problem given p k

-- ---- how a roster grows

-- The new roster has what the old one has, and beside it only what is given.
pub record Grows (problem : Problem) (Gives : ℕ → ℕ → Type 0) (old new : List ℕ) : Type 0 where
  pub covers : length new ≡ length old
  pub numbers : All (λ x. x ≤ length problem.persons) new
  pub keeps : (p k : ℕ) → k < length problem.persons → slice_get old p ≡ Some k → slice_get new p ≡ Some k
  pub only : (p k : ℕ) → k < length problem.persons → slice_get new p ≡ Some k
      → (slice_get old p ≡ Some k) ⊎ Gives p k

-- the pairings that persons have are those of the names
pub record AreTaken (problem : Problem) (places : List ℕ) (names : List (List ℕ)) : Type 0 where
  pub from : (p k : ℕ) (name : List ℕ) → k < length problem.persons → slice_get places p ≡ Some k
      → IsPairing problem name p → list_any (bytes_eq name) names ≡ true
  pub to : (p : ℕ) (name : List ℕ) → IsPairing problem name p → list_any (bytes_eq name) names ≡ true
      → (k : ℕ) × (k < length problem.persons) × (slice_get places p ≡ Some k)
