-- Lists of places: one number for each pairing in book order, the place of the person who flies it, or
-- the number of persons if it is left open.
use Rattle.std.specs.Prelude.{ℕ, ◌+◌, Bool, true, false, ◌&&◌, ◌||◌, ◌==◌, nat_lt, if◌then◌else◌, List, [], ◌∷◌, length}
use Rattle.roster_model.specs.Problem.{Problem}

-- the places from p on, in ascending order, at which the list has the number k
abbrev pub places_with : ℕ → ℕ → List ℕ → List ℕ
places_with k p [] = []
places_with k p (x ∷ places) =
    if x == k then p ∷ places_with k (p + 1) places else places_with k (p + 1) places

-- the set of person k
abbrev pub set_of : ℕ → List ℕ → List ℕ
set_of k places = places_with k 0 places

-- the number that stands for open
abbrev pub open_number : Problem → ℕ
open_number problem = length problem.persons

-- the first list isn't after the second, compared from the front
abbrev pub places_le : List ℕ → List ℕ → Bool
places_le [] ys = true
places_le (x ∷ xs) [] = false
places_le (x ∷ xs) (y ∷ ys) = nat_lt x y || (x == y) && places_le xs ys
