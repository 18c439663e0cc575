-- The words of a line behind its first, each with the space that parts it from the one before.
use Rattle.std.specs.Prelude.{ℕ, List, ◌∷◌}
use Rattle.std.specs.List.{flat_map}

abbrev pub spaced : List ℕ → List ℕ
spaced word = 32 ∷ word

abbrev pub further : List (List ℕ) → List ℕ
further words = flat_map spaced words
