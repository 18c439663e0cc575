-- Tables of the lines that are wanted.
use Rattle.std.specs.Prelude.{◌≡◌, ℕ, List, Some, slice_get}
use Rattle.roster_model.specs.Problem.{Problem}
use Rattle.roster_lines_table.specs.Entries.{Entry, sets_of}
use Rattle.roster_lines_table.specs.Person.{AreListedOf}
use Rattle.roster_lines.specs.SomeLines.{AreWantedLines}

-- the table has some lines of each of the first persons
abbrev pub AreListedSoFar : Problem → List (List Entry) → Type 0
AreListedSoFar problem table =
    (k : ℕ) (lines : List Entry) → slice_get table k ≡ Some lines → AreListedOf problem k lines

-- the table has the lines of each person that are wanted of that person
pub record AreAllWanted {X : Type 0} (wants : X → Problem → ℕ → List ℕ → Type 0) (problem : Problem)
    (wanted : List X) (table : List (List Entry)) : Type 0 where
  pub each : (k : ℕ) (lines : List Entry) (w : X) → slice_get table k ≡ Some lines
      → slice_get wanted k ≡ Some w → AreWantedLines problem k (wants w problem k) (sets_of lines)
