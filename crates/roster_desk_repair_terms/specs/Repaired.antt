-- What ties a repaired book to the book and the published roster that it is of.
use Rattle.std.specs.Prelude.{◌≡◌, ℕ, ◌+◌, ◌<◌, ⊤, List, [], ◌∷◌, length, map, Option, Some, None, ℤ, pos, ◌+ℤ◌, ◌-ℤ◌}
use Rattle.roster_model.specs.Problem.{Problem, home_of, target_of, units_of, weight_of, year_of, eleven_of}
use Rattle.roster_model.specs.Costs.{cost_of}
use Rattle.roster_model.specs.Places.{open_number, set_of}
use Rattle.roster_model.specs.Rules.{duty_list}
use Rattle.roster_model.specs.records.Crew.{Person}
use Rattle.roster_desk_repair_terms.specs.Fixed.{kept_duties, plain, staying, unnumbered, unrowed, whole}
use Rattle.roster_desk_repair_terms.specs.Moves.{less_for, moves}

-- The units of each person with the pairing at place r of the repaired book are those with the one at p of
-- the book, but for its owner, whom it costs less.
abbrev pub AreUnitsAt : Problem → Problem → ℕ → ℕ → ℕ → ℕ → Type 0
AreUnitsAt book repaired price x p r =
    (k : ℕ) → k < length book.persons
    → units_of repaired k r +ℤ pos (less_for price x k) ≡ units_of book k p

-- So it is with each pairing that is rostered anew, and each other keeps the number that it is published
-- with. The first ones are those of the pairings at p and r.
abbrev pub AreUnitsFrom : Problem → Problem → (ℕ → ℕ) → ℕ → ℕ → List ℕ → List (Option ℕ) → Type 0
AreUnitsFrom book repaired price p r [] [] = ⊤
AreUnitsFrom book repaired price p r [] (f ∷ fixed) = ⊥
AreUnitsFrom book repaired price p r (x ∷ published) [] = ⊥
AreUnitsFrom book repaired price p r (x ∷ published) (Some n ∷ fixed) =
    (n ≡ x) × AreUnitsFrom book repaired price (p + 1) r published fixed
AreUnitsFrom book repaired price p r (x ∷ published) (None ∷ fixed) =
    AreUnitsAt book repaired (price p) x p r × AreUnitsFrom book repaired price (p + 1) (r + 1) published fixed

-- the name of the person
abbrev pub name_of : Person → List ℕ
name_of person = person.id

-- Person k is the same in both books.
pub record IsSamePerson (book repaired : Problem) (k : ℕ) : Type 0 where
  pub home : home_of repaired k ≡ home_of book k
  pub target : target_of repaired k ≡ target_of book k
  pub year : year_of repaired k ≡ year_of book k
  pub eleven : eleven_of repaired k ≡ eleven_of book k

-- The repaired book is the book, with its persons and their leave, without the pairings that are fixed, whose
-- duties are those of who flew them, and in which each other pairing costs its owner so much less.
pub record IsRepair (book : Problem) (published : List ℕ) (fixed : List (Option ℕ)) (price : ℕ → ℕ)
    (repaired : Problem) : Type 0 where
  pub weight : weight_of repaired ≡ weight_of book
  pub persons : length repaired.persons ≡ length book.persons
  pub names : map name_of repaired.persons ≡ map name_of book.persons
  pub same : (k : ℕ) → k < length book.persons → IsSamePerson book repaired k
  pub leaves : repaired.leaves ≡ book.leaves
  pub pairings : map unnumbered repaired.pairings ≡ staying fixed (map unnumbered book.pairings)
  pub duties : map unrowed repaired.duties ≡ kept_duties (open_number book) fixed book.duties
  pub units : AreUnitsFrom book repaired price 0 0 published fixed

-- Each roster of the repaired book costs there what the whole one costs in the book and the pairings cost that
-- move by it, less a constant: what the published roster costs in the book more than the rest of it there.
abbrev pub KeepsCosts : Problem → List ℕ → List (Option ℕ) → (ℕ → ℕ) → Problem → ℤ → Type 0
KeepsCosts book published fixed price repaired constant =
    (rest : List ℕ) → length rest ≡ length repaired.pairings
    → cost_of book (whole fixed rest) +ℤ pos (moves price (open_number book) published (whole fixed rest))
    ≡ cost_of repaired rest +ℤ constant

-- Each person has the same duties by a roster of the repaired book and by the whole one.
abbrev pub KeepsDuties : Problem → List (Option ℕ) → Problem → Type 0
KeepsDuties book fixed repaired =
    (rest : List ℕ) (k : ℕ) → length rest ≡ length repaired.pairings → k < length book.persons
    → map plain (duty_list repaired k (set_of k rest)) ≡ map plain (duty_list book k (set_of k (whole fixed rest)))
