-- What is kept of a given roster, number by number.
use Rattle.std.specs.Prelude.{◌≡◌, ◌⊎◌, ℕ, ◌<◌, ◌≤◌, List, [], ◌∷◌, ◌++◌, length, All}
use Rattle.roster_model.specs.Problem.{Problem}
use Rattle.roster_model.specs.Rules.{IsLegal}
use Rattle.roster_model.specs.Places.{set_of, open_number}
use Rattle.roster_model.specs.Plans.{IsKeptAt}

-- the next pairing is legal for person k with what is kept, if k is a person
abbrev pub FitsNext : Problem → List ℕ → ℕ → Type 0
FitsNext problem kept k = k < open_number problem → IsLegal problem k (set_of k kept ++ length kept ∷ [])

-- the number that is kept of the one given, behind those that are kept so far
abbrev pub IsKeptNext : Problem → List ℕ → ℕ → ℕ → Type 0
IsKeptNext problem kept given next =
    (FitsNext problem kept given × (next ≡ given))
    ⊎ ((¬ FitsNext problem kept given) × (next ≡ open_number problem))

-- what is kept of the first numbers of a list, which makes no set that isn't legal
pub record AreKept (problem : Problem) (given kept : List ℕ) : Type 0 where
  pub numbers : All (λ x. x ≤ length problem.persons) kept
  pub legal : (k : ℕ) → k < length problem.persons → IsLegal problem k (set_of k kept)
  pub each : (p : ℕ) → p < length kept → IsKeptAt problem given kept p
