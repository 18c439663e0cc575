-- How a command line ends that asks for nothing.
use Rattle.std.specs.Prelude.{◌≡◌, ◌⊎◌, ℕ, List, codes}
use Rattle.clap.specs.Words.{IsAmong, Kinds}
use Rattle.clap.specs.declared.error.kind.ErrorKind.{ErrorKind}
use Rattle.clap.specs.declared.error.kind.ErrorKind.TheVariants.{DisplayHelp, DisplayVersion}

-- the exit status: a call for help or for the version is answered, and anything else is refused
abbrev pub kind_number : ErrorKind → ℕ
kind_number DisplayHelp = 0
kind_number DisplayVersion = 0
kind_number _ = 2

-- the status is that of one of the kinds, or memory ran out
abbrev pub EndsByKind : Kinds → ℕ → Type 0
EndsByKind kinds status =
    (status ≡ 3) ⊎ ((kind : ErrorKind) × IsAmong kind kinds × (status ≡ kind_number kind))

-- what standard error is told if a word is no text
abbrev pub no_text : List ℕ
no_text = codes "error: a word of the command line is not UTF-8"
