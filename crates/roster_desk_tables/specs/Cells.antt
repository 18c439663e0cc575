-- The cells of a row.
use Rattle.std.specs.Prelude.{◌++◌, ◌∷◌, List, None, Option, Some, [], codes, ℕ}
use Rattle.roster_desk_sheets.specs.Called.{called_in}
use Rattle.roster_desk_sheets.specs.declared.names.Called.{Called}

-- the first cell, which is a person's code
abbrev pub code_in : List (List ℕ) → List ℕ
code_in [] = []
code_in (code ∷ rest) = code

-- the cells, and behind them what the person is called, if names are given
abbrev pub cells_with : Option (List Called) → List (List ℕ) → List (List ℕ)
cells_with None cells = cells
cells_with (Some called) cells = cells ++ called_in called (code_in cells) ∷ []

-- the names of the columns, and that of the one that tells what persons are called, if names are given
abbrev pub columns_with : {X : Type 0} → Option X → List (List ℕ) → List (List ℕ)
columns_with None columns = columns
columns_with (Some names) columns = columns ++ codes "CALLED" ∷ []
