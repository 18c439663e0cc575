-- What it costs that pairings move from who has them by a published roster.
use Rattle.std.specs.Prelude.{ℕ, ◌+◌, Bool, not, ◌&&◌, ◌==◌, nat_lt, if◌then◌else◌, List, [], ◌∷◌}

-- The price of each pairing that a person has by the published roster and not by the other one. Who is no
-- person is nobody; the first number is that of the pairing at place p.
abbrev pub moves_from : (ℕ → ℕ) → ℕ → ℕ → List ℕ → List ℕ → ℕ
moves_from price nobody p [] places = 0
moves_from price nobody p (x ∷ published) [] = 0
moves_from price nobody p (x ∷ published) (y ∷ places) =
    (if nat_lt x nobody && not (x == y) then price p else 0) + moves_from price nobody (p + 1) published places

abbrev pub moves : (ℕ → ℕ) → ℕ → List ℕ → List ℕ → ℕ
moves price nobody published places = moves_from price nobody 0 published places

-- what a pairing costs its owner less than anybody else
abbrev pub less_for : ℕ → ℕ → ℕ → ℕ
less_for price x k = if x == k then price else 0
