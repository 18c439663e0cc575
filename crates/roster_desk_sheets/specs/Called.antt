-- What persons are called.
use Rattle.std.specs.Prelude.{List, Option, option_and_then, option_map, position, slice_get, unwrap_or, ℕ}
use Rattle.std.specs.Str.{bytes_eq}
use Rattle.roster_desk_sheets.specs.declared.names.Called.{Called}

-- the place of the first entry of the code, if there is one
unfoldable pub place_called : List ℕ → List Called → Option ℕ
place_called code called = position (λ entry. bytes_eq entry.code.items code) called

-- what it says; the code itself if there is none
abbrev pub called_in : List Called → List ℕ → List ℕ
called_in called code =
    unwrap_or (option_map (λ entry. entry.name.items) (option_and_then (λ i. slice_get called i) (place_called code called))) code
