-- Base (this project's own): a person flies only pairings of the home base.
use Rattle.std.specs.Prelude.{◌≡◌, ℕ, List, Some, slice_get, Contains}
use Rattle.roster_model.specs.Problem.{Problem}
use Rattle.roster_model.specs.records.Crew.{Person}
use Rattle.roster_model.specs.records.Pairing.{Pairing}

-- Each pairing of the set has the person's base.
abbrev pub KeepsBase : Problem → ℕ → List ℕ → Type 0
KeepsBase problem k set = (p : ℕ) (pairing : Pairing) (person : Person) → Contains set p
    → slice_get problem.pairings p ≡ Some pairing → slice_get problem.persons k ≡ Some person
    → pairing.base ≡ person.base
