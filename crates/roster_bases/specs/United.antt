-- Rosters of bases, put together.
use Rattle.std.specs.Prelude.{ℕ, ◌+◌, Bool, if◌then◌else◌, List, [], ◌∷◌}
use Rattle.roster_model.specs.Problem.{Problem}
use Rattle.roster_bases.specs.Bases.{base_of_pairing}

-- If the test says yes of a place, the number that the first list has there, and elsewhere the one that
-- the second has. The first number is that of place p.
abbrev pub pick : (ℕ → Bool) → ℕ → List ℕ → List ℕ → List ℕ
pick test p [] ys = []
pick test p (x ∷ xs) [] = []
pick test p (x ∷ xs) (y ∷ ys) = (if test p then x else y) ∷ pick test (p + 1) xs ys

-- what the first roster has at the pairings of some bases, and the second at the others
abbrev pub unite : Problem → (ℕ → Bool) → List ℕ → List ℕ → List ℕ
unite problem bases xs ys = pick (λ p. bases (base_of_pairing problem p)) 0 xs ys
