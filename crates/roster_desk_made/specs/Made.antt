-- A text that is a book, and why one is none.
use Rattle.std.specs.Prelude.{◌≡◌, ⊤, ℕ, List, None, Some}
use Rattle.roster_model.specs.Answer.{records_of}
use Rattle.roster_model.specs.Faults.{first_fault}
use Rattle.roster_model.specs.Problem.{problem_of}
use Rattle.roster_model.specs.Record.{Check}
use Rattle.roster_desk_made.specs.declared.reading.MadeBook.{MadeBook}
use Rattle.roster_desk_made.specs.declared.unmade.Unmade.{Unmade}
use Rattle.roster_desk_made.specs.declared.unmade.Unmade.TheVariants as whys

-- the text is a book without a fault, and this is its problem
pub record IsRead (made : MadeBook) : Type 0 where
  pub faultless : first_fault Check (records_of made.text.items) ≡ None
  pub problem : made.problem ≡ problem_of (records_of made.text.items)

-- a fault that is told of a text is its first one
abbrev pub TellsFault : Unmade → Type 0
TellsFault (whys.At text row code) =
    first_fault Check (records_of text.items) ≡ Some (record { row = row; code = code })
TellsFault whys.Unlike = ⊤
TellsFault whys.Memory = ⊤

-- a fault is told of this text
abbrev pub TellsText : List ℕ → Unmade → Type 0
TellsText bytes (whys.At text row code) = text.items ≡ bytes
TellsText bytes whys.Unlike = ⊤
TellsText bytes whys.Memory = ⊤
