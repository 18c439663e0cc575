-- Which fault of a book is told first.
use Rattle.std.specs.Prelude.{◌≡◌, ◌+◌, ◌<◌, ◌++◌, ◌∷◌, ⊤, ℕ, All, Bool, List, [], None, Option, Some, length, not, take, true}
use Rattle.std.specs.List.{count_by}
use Rattle.roster_model.specs.Faults.{first_fault}
use Rattle.roster_model.specs.Record as model
use Rattle.roster_model.specs.Record.{Check}
use Rattle.roster_desk_fault.specs.declared.judging.Fault.{Fault}
use Rattle.roster_desk_fault.specs.declared.judging.First.{First}
use Rattle.roster_desk_fault.specs.declared.judging.Judged.{Judged}
use Rattle.roster_desk_fault.specs.declared.judging.Judged.TheVariants.{Faulty, Good}
use Rattle.roster_desk_fault.specs.declared.judging.Told.{Told}
use Rattle.roster_desk_fault.specs.declared.rows.Record.{Record}

-- ---- records that are left out

-- the record isn't left out
abbrev pub is_kept : Record → Bool
is_kept row = not row.left_out

-- no record is left out
abbrev pub AreKept : List Record → Type 0
AreKept rows = All (λ row. is_kept row ≡ true) rows

-- The record at the place isn't left out, and it is the n-th of those that aren't.
pub record IsKeptAt (rows : List Record) (n at : ℕ) : Type 0 where
  pub within : at < length rows
  pub kept : count_by is_kept (take (at + 1) rows) ≡ n

-- ---- the first fault

-- The new list has one more behind the others: the record at the place, with the code.
pub record IsTold (at code : ℕ) (old new : List Told) : Type 0 where
  pub told : Told
  pub place : told.at ≡ at
  pub number : told.code ≡ code
  pub all : new ≡ old ++ told ∷ []

-- the first of these that are told is of the record of the row, and has the code
abbrev pub BeginsAt : First → List Told → Type 0
BeginsAt first [] = ⊤
BeginsAt first (told ∷ rest) = (told.at + 1 ≡ first.row) × (told.code ≡ first.code)

-- It does, or nothing is told yet, and the first fault is the next one of these records.
abbrev pub HasBegun : First → Option First → List Record → List Record → List Told → Type 0
HasBegun first next old rows [] = (next ≡ Some first) × (rows ≡ old)
HasBegun first next old rows (told ∷ rest) = BeginsAt first (told ∷ rest)

-- It is told as a value, with the row of its record, from 1.
pub record IsValue (told : Told) (fault : Fault) : Type 0 where
  pub row : told.at < 18446744073709551615 → fault.row ≡ told.at + 1
  pub code : fault.code ≡ told.code

-- There is a value, and the first one is of the row, and has the code.
abbrev pub IsFirst : ℕ → ℕ → List Fault → Type 0
IsFirst row code [] = ⊥
IsFirst row code (fault ∷ rest) = (fault.row ≡ row) × (fault.code ≡ code)

-- So it is if there is one.
abbrev pub MayBeFirst : ℕ → ℕ → List Fault → Type 0
MayBeFirst row code [] = ⊤
MayBeFirst row code (fault ∷ rest) = IsFirst row code (fault ∷ rest)

-- A good book has no fault. Of another one at least one is told, and the first of them is the book's first fault.
abbrev pub IsJudged : List model.Record → Judged → Type 0
IsJudged records Good = first_fault Check records ≡ None
IsJudged records (Faulty faults) =
    (row : ℕ) × (code : ℕ) × (first_fault Check records ≡ Some (record { row = row; code = code }))
    × IsFirst row code faults.items
