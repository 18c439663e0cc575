-- What was made of the lines of persons.
use Rattle.std.specs.Prelude.{◌≡◌, ℕ, ◌<◌, ◌≤◌, All, List, Some, length, slice_get, MatchResult, Result}
use Rattle.roster_model.specs.declared.limits.TheConstants.{MOST_LINES}
use Rattle.roster_model.specs.Lines.{AreLines}
use Rattle.roster_model.specs.Problem.{Problem}
use Rattle.roster_lines_table.specs.Entries.{Entry, sets_of}
use Rattle.roster_lines_table.specs.Person.{AreCosted}
use Rattle.roster_lines.specs.declared.extend.LinesFault.{LinesFault}
use Rattle.roster_lines.specs.SomeLines.{IsFaultOf}

-- the lines of person k with what they cost, no more than there may be
pub record AreMade (problem : Problem) (k : ℕ) (lines : List Entry) : Type 0 where
  pub sets : AreLines problem k (sets_of lines)
  pub costs : AreCosted problem k lines
  pub few : length lines ≤ MOST_LINES

-- what was made of the lines of person k: those lines, or why they aren't listed
abbrev pub IsMadeOf : Problem → ℕ → Result (List Entry) LinesFault → Type 0
IsMadeOf problem k made = MatchResult made (AreMade problem k) (IsFaultOf problem k)

-- each slot has what was made of the lines of the person at its place
pub record AreMadeOf (problem : Problem) (slots : List (Result (List Entry) LinesFault)) : Type 0 where
  pub covers : length slots ≡ length problem.persons
  pub each : (k : ℕ) (made : Result (List Entry) LinesFault) → slice_get slots k ≡ Some made
      → IsMadeOf problem k made

-- and what was made of those of some persons, with their places
abbrev pub AreMadeFor : Problem → List (ℕ × Result (List Entry) LinesFault) → Type 0
AreMadeFor problem all = All (λ made. (made.0 < length problem.persons) × IsMadeOf problem made.0 made.1) all

-- the table has the lines of the first persons
abbrev pub IsTableSoFar : Problem → List (List Entry) → Type 0
IsTableSoFar problem table =
    (k : ℕ) (lines : List Entry) → slice_get table k ≡ Some lines → AreMade problem k lines
