-- A pairing of another base.
use Rattle.std.specs.Prelude.{◌≡◌, ◌≢◌, ℕ, ◌<◌, true, List, Some, slice_get}
use Rattle.roster_model.specs.Problem.{Problem}
use Rattle.roster_model.specs.Rules.{is_among}
use Rattle.roster_model.specs.records.Crew.{Person}
use Rattle.roster_model.specs.records.Pairing.{Pairing}

-- The pairing at place p is in the set and has another base than person k. Those of the set before it
-- have the person's base.
pub record IsFirstOffBase (problem : Problem) (k : ℕ) (set : List ℕ) (p : ℕ) : Type 0 where
  pub pairing : Pairing
  pub person : Person
  pub at_place : slice_get problem.pairings p ≡ Some pairing
  pub of_person : slice_get problem.persons k ≡ Some person
  pub among : is_among set p ≡ true
  pub other : pairing.base ≢ person.base
  pub first : (q : ℕ) (earlier : Pairing) → q < p → is_among set q ≡ true
      → slice_get problem.pairings q ≡ Some earlier
      → earlier.base ≡ person.base
