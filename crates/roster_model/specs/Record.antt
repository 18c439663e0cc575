-- Records: lists of fields of bytes, as `csv` gives them. Each has a kind, and the records of a kind
-- make a table: each is seen with the records before it, among which it looks up what it names.
use Rattle.std.specs.Prelude.{ℕ, ◌+◌, Bool, if◌then◌else◌, List, [], ◌∷◌, ◌++◌, length, Option, Some, None, unsigned_abs, position, unwrap_or, slice_get, codes}
use Rattle.std.specs.List.{cons_option}
use Rattle.std.specs.Str.{bytes_eq}
use Rattle.roster_model.specs.Form.{number_of}
use Rattle.roster_model.specs.Calendar.{instant_of}

abbrev pub Record : Type 0
Record = List (List ℕ)

-- the field at a place from 0, and no bytes if there is none
abbrev pub field : Record → ℕ → List ℕ
field fields i = unwrap_or (slice_get fields i) []

-- the amount that a field spells
abbrev pub amount_of : List ℕ → ℕ
amount_of text = unsigned_abs (number_of text)

-- the instant that a field spells
abbrev pub minute_of : List ℕ → ℕ
minute_of text = unwrap_or (instant_of text) 0

-- ---- names

-- the place of the entry with the name, if there is one; `id_of` gives the name of an entry
unfoldable pub place_named : {X : Type 0} → (X → List ℕ) → List ℕ → List X → Option ℕ
place_named id_of name entries = position (λ entry. bytes_eq (id_of entry) name) entries

-- ---- kinds

-- what a record is about
pub data Kind : Type 0 where
  PeriodRecord : Kind
  WeightRecord : Kind
  BaseRecord : Kind
  CrewRecord : Kind
  PairingRecord : Kind
  DutyRecord : Kind
  SectorRecord : Kind
  LeaveRecord : Kind
  CostRecord : Kind
  AssignRecord : Kind
  StepRecord : Kind

-- the word in the first field
abbrev pub word_of : Kind → List ℕ
word_of PeriodRecord = codes "period"
word_of WeightRecord = codes "weight"
word_of BaseRecord = codes "base"
word_of CrewRecord = codes "crew"
word_of PairingRecord = codes "pairing"
word_of DutyRecord = codes "duty"
word_of SectorRecord = codes "sector"
word_of LeaveRecord = codes "leave"
word_of CostRecord = codes "cost"
word_of AssignRecord = codes "assign"
word_of StepRecord = codes "step"

abbrev pub is_of : Kind → Record → Bool
is_of kind fields = bytes_eq (field fields 0) (word_of kind)

-- what the program is asked to do
pub data Command : Type 0 where
  -- to find the best roster
  Solve : Command
  -- to judge the roster that the book gives
  Check : Command
  -- to find the best roster of a book that may give the steps of a search
  Replay : Command

-- the kinds that a book for every command may have
abbrev pub common_kinds : List Kind
common_kinds =
    PeriodRecord ∷ WeightRecord ∷ BaseRecord ∷ CrewRecord ∷ PairingRecord ∷ DutyRecord ∷ SectorRecord
    ∷ LeaveRecord ∷ CostRecord ∷ []

-- the kinds that a book for the command may have
abbrev pub kinds_of : Command → List Kind
kinds_of Solve = common_kinds
kinds_of Check = common_kinds ++ AssignRecord ∷ []
kinds_of Replay = common_kinds ++ StepRecord ∷ []

-- ---- tables

-- the row of the record that comes after these: records are counted from 1
abbrev pub next_row : List Record → ℕ
next_row before = length before + 1

-- What one record adds to a table, gathered from all records; each is seen with those before it.
unfoldable pub gather_after : {X : Type 0} → (List Record → Record → Option X) → List Record → List Record
    → List X
gather_after entry before [] = []
gather_after entry before (fields ∷ rest) =
    cons_option (entry before fields) (gather_after entry (before ++ fields ∷ []) rest)

-- what a record of the kind makes, if it is of that kind
abbrev pub entry_of : {X : Type 0} → Kind → (List Record → Record → X) → List Record → Record → Option X
entry_of kind made before fields = if is_of kind fields then Some (made before fields) else None

-- what the records of the kind make, in their order
abbrev pub entries_of : {X : Type 0} → Kind → (List Record → Record → X) → List Record → List X
entries_of kind made records = gather_after (entry_of kind made) [] records
