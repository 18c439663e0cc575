-- What the program does with the words of its command line.
use Rattle.std.specs.Prelude.{◌≡◌, ℕ, List, map, Option, Some, Result, Ok, Err, String, Vec, codes, string_bytes}
use Rattle.roster_model.specs.Record.{Record}
use Rattle.roster_model.specs.Record as model
use Rattle.roster_values.specs.View.{command_of}
use Rattle.roster_values.specs.declared.command.Command.{Command}
use Rattle.roster_book.specs.Reading.{OfTold}
use Rattle.roster_cli_arguments.specs.Line.{command_name, spelling}

-- the texts of the words
abbrev pub texts_of : {A B : Type 0} → Vec (String A) B → List (List ℕ)
texts_of words = map string_bytes words.items

-- the words are there, and name the command
abbrev pub Asks : {A B E : Type 0} → Result (Vec (String A) B) E → Command → Type 0
Asks (Ok words) command = command_name (texts_of words) ≡ Some (spelling command)
Asks (Err error) command = ⊥

-- The words ask for a command, and it holds of this command and of the records of the bytes that the
-- reader told, or, if they aren't known, of some.
abbrev pub OfAsked : {A B E : Type 0} → (model.Command → List Record → Type 0) → Result (Vec (String A) B) E
    → Option (List ℕ) → Type 0
OfAsked Says words told = (command : Command) × Asks words command × OfTold (Says (command_of command)) told

-- what standard error is told if a word is no text
abbrev pub no_text : List ℕ
no_text = codes "error: a word of the command line is not UTF-8"
