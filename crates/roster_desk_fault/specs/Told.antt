-- What is told of a book: its faults, or what is likely a mistake in it.
use Rattle.std.specs.Prelude.{◌≡◌, ◌+◌, ◌<◌, ◌++◌, ◌∷◌, ◌⊎◌, ⊤, ℕ, List, None, Option, Some, [], codes, drop, length, slice_get}
use Rattle.std.specs.Fmt.{decimal}
use Rattle.roster_model.specs.Answer.{IsRefusal}
use Rattle.roster_model.specs.Faults.{first_fault}
use Rattle.roster_model.specs.Lines.{IsCrowded, IsFirstCrowded}
use Rattle.roster_model.specs.Problem.{Problem, problem_of}
use Rattle.roster_model.specs.Record.{Check, Kind, Record, kinds_of, word_of}
use Rattle.roster_model.specs.declared.limits.TheConstants.{MOST_LINES}
use Rattle.roster_model.specs.records.Crew.{Person}
use Rattle.roster_model.specs.Texts.{fault_text}
use Rattle.roster_desk_words.specs.Parts.{AreParts}
use Rattle.roster_desk_fault.specs.Kinds.{most_of}
use Rattle.roster_desk_fault.specs.declared.judging.Told.{Told}

-- ---- a book without a fault

-- how many there may be, and the end of the line
abbrev pub most_text : Option ℕ → List ℕ
most_text None = codes "\n"
most_text (Some most) = codes " of " ++ decimal most ++ codes " at most\n"

-- how many records of the kind there are
abbrev pub count_line : Kind → ℕ → List ℕ
count_line kind count =
    codes "  " ++ word_of kind ++ drop (length (word_of kind)) (codes "        ") ++ decimal count
    ++ most_text (most_of kind)

-- so it is for some number
abbrev pub IsCounted : Kind → List ℕ → Type 0
IsCounted kind line = (count : ℕ) × (line ≡ count_line kind count)

-- Person k has too many legal sets for `solve`. What is shown of the person's record is only some text.
pub record SaysCrowded (problem : Problem) (k : ℕ) (text : List ℕ) : Type 0 where
  pub first : IsFirstCrowded problem k
  pub person : Person
  pub is : slice_get problem.persons k ≡ Some person
  pub shown : List ℕ
  pub all : text ≡ codes "NOT FOR SOLVE\n" ++ shown
      ++ codes "  why     `roster solve` can't list all legal sets of " ++ person.id
      ++ codes ": there are more than " ++ decimal MOST_LINES
      ++ codes ", the empty one counted; others may have as many\n"
      ++ codes "  wanted  `roster-desk plan`, which takes this book; or a book for a part of the month or base\n"

-- the first person who has is told, or nobody has, and nothing is told
abbrev pub TellsCrowded : Problem → List ℕ → Type 0
TellsCrowded problem text =
    ((text ≡ []) × ((k : ℕ) → k < length problem.persons → ¬ IsCrowded problem k))
    ⊎ ((k : ℕ) × SaysCrowded problem k text)

-- that there is no fault, how many records of each kind there are, and who has too many legal sets for `solve`
pub record IsGoodText (problem : Problem) (text : List ℕ) : Type 0 where
  pub counts : List ℕ
  pub counted : AreParts IsCounted (kinds_of Check) counts
  pub last : List ℕ
  pub crowded : TellsCrowded problem last
  pub all : text ≡ codes "NO FAULT\n" ++ counts ++ last

-- ---- a book with a fault

-- the text begins with the line of a fault of the record of this row, as a check tells it
pub record SaysFault (row code : ℕ) (text : List ℕ) : Type 0 where
  pub said : List ℕ
  pub all : text ≡ fault_text (record { row = row; code = code }) ++ said

-- so it does of the record at its place
abbrev pub IsPart : Told → List ℕ → Type 0
IsPart told text = told.at < 18446744073709551615 → SaysFault (told.at + 1) told.code text

-- ---- what is told of any book

-- so it is, and the book has no fault
pub record IsGoodBook (records : List Record) (text : List ℕ) : Type 0 where
  pub faultless : first_fault Check records ≡ None
  pub good : IsGoodText (problem_of records) text

-- the text begins with the line of the book's first fault, as a check tells it
pub record IsFaultyBook (records : List Record) (text : List ℕ) : Type 0 where
  pub line : List ℕ
  pub first : IsRefusal Check records line
  pub behind : List ℕ
  pub all : text ≡ line ++ behind

abbrev pub IsFaultText : List Record → List ℕ → Type 0
IsFaultText records text = IsGoodBook records text ⊎ IsFaultyBook records text

-- ---- what is likely a mistake

-- the words of warnings, in the order in which they are told
abbrev pub warning_words : List (List ℕ)
warning_words =
    codes "ZONE" ∷ codes "NIGHT" ∷ codes "YEAR" ∷ codes "TARGET" ∷ codes "HOURS" ∷ codes "LONGDUTY"
    ∷ codes "POSITIONING" ∷ codes "FREEMONTH" ∷ codes "REST" ∷ codes "STATION" ∷ codes "TWIN" ∷ codes "ELEVEN"
    ∷ codes "WEIGHT" ∷ codes "PENALTY" ∷ codes "SHARE" ∷ codes "HISTORY" ∷ codes "FIXED" ∷ codes "AWAY"
    ∷ codes "HOME" ∷ []

-- the text begins with the line of a warning of this word, of the record of some row
pub record BeginsWarning (word text : List ℕ) : Type 0 where
  pub row : ℕ
  pub behind : List ℕ
  pub all : text ≡ codes "WARN " ++ decimal row ++ codes " " ++ word ++ codes "\n" ++ behind

-- so it does, or nothing is told
abbrev pub IsOfWord : List ℕ → List ℕ → Type 0
IsOfWord word [] = ⊤
IsOfWord word (byte ∷ text) = BeginsWarning word (byte ∷ text)

-- the text, or the line that stands for no warning
abbrev pub or_none : List ℕ → List ℕ
or_none [] = codes "NO WARNING\n"
or_none (byte ∷ text) = byte ∷ text

-- the warnings of each word, in their order, or that there is none
pub record IsWarnText (text : List ℕ) : Type 0 where
  pub told : List ℕ
  pub parts : AreParts IsOfWord warning_words told
  pub all : text ≡ or_none told
