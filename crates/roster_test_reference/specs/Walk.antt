-- How far a walk of lines has come.
use Rattle.std.specs.Prelude.{◌≡◌, ℕ, ◌<◌, ◌⊎◌, List, length, All}
use Rattle.roster_model.specs.Problem.{Problem}
use Rattle.roster_model.specs.Rules.{IsLegal}
use Rattle.roster_model.specs.Places.{set_of, open_number}

-- In the list of places each person before k has a legal set, and no other has a pairing.
pub record IsWalkedTo (problem : Problem) (k : ℕ) (places : List ℕ) : Type 0 where
  pub covers : length places ≡ length problem.pairings
  pub numbers : All (λ x. (x < k) ⊎ (x ≡ open_number problem)) places
  pub legal : (j : ℕ) → j < k → IsLegal problem j (set_of j places)

-- the lists in which each person before k has the set that they have in the first
abbrev pub AgreeBefore : ℕ → List ℕ → List ℕ → Type 0
AgreeBefore k places others = (j : ℕ) → j < k → set_of j others ≡ set_of j places
