-- What a pairing costs at least.
use Rattle.std.specs.Prelude.{ℕ, ◌<◌, [], ◌∷◌, length, true, slice_get, Some, ◌≡◌, ◌⊎◌, ℤ, pos, ◌≤ℤ◌}
use Rattle.roster_model.specs.declared.limits.TheConstants.{MOST_UNITS}
use Rattle.roster_model.specs.records.Pairing.{Pairing}
use Rattle.roster_model.specs.Problem.{Problem, units_of}
use Rattle.roster_model.specs.Rules.{IsLegal}
use Rattle.roster_cost.specs.Amounts.{IsWithin}
use Rattle.roster_bases.specs.Bases.{base_of_person, only}

-- The pairing at place p costs no less, be it left open or flown by one of the first n persons who is of the
-- base and for whom it is legal alone. The amount is within the limit of units and penalties.
pub record IsFloorAmong (problem : Problem) (base n p : ℕ) (floor : ℤ) : Type 0 where
  pub unflown : (pairing : Pairing) → slice_get problem.pairings p ≡ Some pairing
      → floor ≤ℤ pos pairing.penalty
  pub flown : (k : ℕ) → k < n → only base (base_of_person problem k) ≡ true → IsLegal problem k (p ∷ [])
      → floor ≤ℤ units_of problem k p
  pub within : IsWithin MOST_UNITS floor

-- the same of all persons
abbrev pub IsFloor : Problem → ℕ → ℕ → ℤ → Type 0
IsFloor problem base p floor = IsFloorAmong problem base (length problem.persons) p floor

-- no more than the least so far, nor than the units of person k if that one is of the base and the pairing is
-- legal alone
pub record IsFloorOf (problem : Problem) (base k p : ℕ) (least floor : ℤ) : Type 0 where
  pub at_most : floor ≤ℤ least
  pub flown : only base (base_of_person problem k) ≡ true → IsLegal problem k (p ∷ []) → floor ≤ℤ units_of problem k p
  pub from : (floor ≡ least) ⊎ IsWithin MOST_UNITS floor
