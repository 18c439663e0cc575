-- Which pairings are told of.
use Rattle.std.specs.Prelude.{ℕ, Bool, List, Option, Some, None, ◌==◌, slice_index}
use Rattle.roster_model.specs.Places.{open_number}
use Rattle.roster_model.specs.Problem.{Problem}

-- the pairing at place p is the one that is named, or it is open if none is
abbrev pub is_asked : Problem → List ℕ → ℕ → Option ℕ → Bool
is_asked problem places p (Some asked) = asked == p
is_asked problem places p None = slice_index places p == open_number problem
