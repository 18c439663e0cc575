-- What is kept while the lines of a person are listed.
use Rattle.std.specs.Prelude.{◌≡◌, ℕ, ◌<◌, ◌≤◌, ◌↔◌, true, false, List, [], ◌∷◌, ◌++◌, Some, length, slice_get, All, Option, MatchOption}
use Rattle.roster_model.specs.Costs.{flight_of, total}
use Rattle.roster_model.specs.Lines.{AreSomeLines, IsLine}
use Rattle.roster_model.specs.Problem.{Problem, units_of}
use Rattle.roster_model.specs.Places.{places_le}
use Rattle.roster_model.specs.Rules.{is_among, IsLegal}
use Rattle.roster_legal.specs.Stepping.{Stepped}
use Rattle.roster_cost.specs.Amounts.{minutes_of_pairing, most_flight}
use Rattle.roster_lines.specs.declared.stem.Stem.{Stem}
use Rattle.roster_lines.specs.declared.pairs.Pairs.{Pairs}

-- what is part of a legal set of person k is legal
abbrev pub ArePartsLegal : Problem → ℕ → Type 0
ArePartsLegal problem k =
    (set part : List ℕ) → ((p : ℕ) → is_among part p ≡ true → is_among set p ≡ true)
    → IsLegal problem k set → IsLegal problem k part

-- no set gives person k more flight than there is by the limits of a book
abbrev pub IsFlightWithin : Problem → ℕ → Type 0
IsFlightWithin problem k = (set : List ℕ) → flight_of problem k set ≤ most_flight

-- pairing q is a later one than p, and the two are legal together
abbrev pub AreTogether : Problem → ℕ → ℕ → ℕ → Type 0
AreTogether problem k p q = (p < q) × (q < length problem.pairings) × IsLegal problem k (p ∷ q ∷ [])

-- the pairings that are legal alone
abbrev pub AreAlone : Problem → ℕ → List ℕ → Type 0
AreAlone problem k alone =
    (p : ℕ) → (is_among alone p ≡ true) ↔ ((p < length problem.pairings) × IsLegal problem k (p ∷ []))

-- pairings that are legal alone
abbrev pub AreLegalAlone : Problem → ℕ → List ℕ → Type 0
AreLegalAlone problem k among =
    (p : ℕ) → is_among among p ≡ true → (p < length problem.pairings) × IsLegal problem k (p ∷ [])

-- the row of pairing p: the later ones that are legal together with it
abbrev pub IsRow : Problem → ℕ → ℕ → List ℕ → Type 0
IsRow problem k p row = (q : ℕ) → (is_among row q ≡ true) ↔ AreTogether problem k p q

-- the flight of each pairing with person k
pub record AreFlights (problem : Problem) (k : ℕ) (flights : List ℕ) : Type 0 where
  pub covers : length flights ≡ length problem.pairings
  pub each : (p minutes : ℕ) → slice_get flights p ≡ Some minutes → minutes ≡ minutes_of_pairing problem k p

-- those that are legal alone, and the row and the flight of each pairing
pub record ArePairs (problem : Problem) (k : ℕ) (pairs : Pairs) : Type 0 where
  pub alone : AreAlone problem k pairs.alone
  pub covers : length pairs.rows.items ≡ length problem.pairings
  pub rows : (p : ℕ) (row : List ℕ) → slice_get pairs.rows.items p ≡ Some row → IsRow problem k p row
  pub flights : AreFlights problem k pairs.flights.items

-- those of each person
pub record AreAllPairs (problem : Problem) (all : List Pairs) : Type 0 where
  pub long : length all ≡ length problem.persons
  pub each : (k : ℕ) (pairs : Pairs) → slice_get all k ≡ Some pairs → ArePairs problem k pairs

-- The sets are lines of person k that stand before the mark, and each that is wanted of those there is
-- among them.
pub record IsUpTo (problem : Problem) (k : ℕ) (wants : List ℕ → Type 0) (mark : List ℕ)
    (sets : List (List ℕ)) : Type 0 where
  pub some : AreSomeLines problem k sets
  pub before : All (λ set. places_le mark set ≡ false) sets
  pub every : (set : List ℕ) → IsLine problem k set → wants set → places_le mark set ≡ false
      → (i : ℕ) × (slice_get sets i ≡ Some set)

-- the lines of person k that are wanted hold none but these pairings
abbrev pub HoldOnly : Problem → ℕ → (List ℕ → Type 0) → List ℕ → Type 0
HoldOnly problem k wants among =
    (set : List ℕ) (p : ℕ) → IsLine problem k set → wants set → is_among set p ≡ true → is_among among p ≡ true

-- The stem is a line with its units and flight, and its candidates are pairings that may stand behind it:
-- of those that are looked at, all that are behind it in some line. Each is legal alone, and with each
-- pairing of it.
pub record IsStem (problem : Problem) (k : ℕ) (stem : Stem) : Type 0 where
  pub line : IsLine problem k stem.set
  pub units : stem.units ≡ total (units_of problem k) stem.set
  pub flight : stem.flight ≡ flight_of problem k stem.set
  pub known : (p : ℕ) → is_among stem.candidates p ≡ true → is_among stem.among p ≡ true
  pub places : (p : ℕ) → is_among stem.candidates p ≡ true → p < length problem.pairings
  pub behind : (p : ℕ) → is_among stem.candidates p ≡ true → All (λ q. q < p) stem.set
  pub single : (p : ℕ) → is_among stem.candidates p ≡ true → IsLegal problem k (p ∷ [])
  pub pairs : (p q : ℕ) → is_among stem.candidates p ≡ true → is_among stem.set q ≡ true
      → IsLegal problem k (q ∷ p ∷ [])
  pub every : (p : ℕ) (rest : List ℕ) → IsLine problem k (stem.set ++ p ∷ rest) → is_among stem.among p ≡ true
      → is_among stem.candidates p ≡ true

-- what a judge of sets of person k knows of one, if it has looked at these pairings
abbrev pub judged_as : Problem → ℕ → List ℕ → List ℕ → Stepped
judged_as problem k among set =
    record { loads = record { problem = problem; person = k; among = among }; set = set }

-- no line of person k that begins with the set and p behind it is wanted
abbrev pub NoneBehind : Problem → ℕ → (List ℕ → Type 0) → List ℕ → ℕ → Type 0
NoneBehind problem k wants set p =
    (rest : List ℕ) → IsLine problem k (set ++ p ∷ rest) → ¬ wants (set ++ p ∷ rest)

-- What is found of the stem with p behind: that line, or nothing, and then none that begins so is a line
-- that is wanted.
abbrev pub LineWith : Problem → ℕ → (List ℕ → Type 0) → Stem → ℕ → Option Stepped → Type 0
LineWith problem k wants stem p found =
    MatchOption found (NoneBehind problem k wants stem.set p)
    (λ longer. (longer ≡ judged_as problem k stem.among (stem.set ++ p ∷ [])) × IsLine problem k (stem.set ++ p ∷ []))
