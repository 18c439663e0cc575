-- What the desk answers to the records of a book that it is to plan.
use Rattle.std.specs.Prelude.{◌≡◌, ◌⊎◌, ℕ, ◌<◌, true, List, [], ◌∷◌, ◌++◌, length, replicate, slice_index, take, ℤ}
use Rattle.roster_model.specs.Record.{Record, Check}
use Rattle.roster_model.specs.records.Assign.{assigned_in}
use Rattle.roster_model.specs.Problem.{Problem, problem_of}
use Rattle.roster_model.specs.Faults.{Fault}
use Rattle.roster_model.specs.Rules.{IsLegal}
use Rattle.roster_model.specs.Places.{set_of, open_number}
use Rattle.roster_model.specs.Rosters.{Key, key_of, key_le}
use Rattle.roster_model.specs.Settled.{IsHeld, IsLowerBound}
use Rattle.roster_model.specs.Texts.{IsPlanOf}
use Rattle.roster_model.specs.Answer.{IsBestReport, IsFirstFault, IsRefusal}

-- ---- where a plan starts

-- every pairing is left open
abbrev pub all_open : Problem → List ℕ
all_open problem = replicate (length problem.pairings) (open_number problem)

-- the pairing at place p is open in a given roster, or legal for the person who has it there, with those
-- pairings before it that this person keeps
abbrev pub FitsKept : Problem → List ℕ → List ℕ → ℕ → Type 0
FitsKept problem given kept p =
    let k = slice_index given p in
    k < open_number problem → IsLegal problem k (set_of k (take p kept) ++ p ∷ [])

-- the pairing keeps its number if it fits, and else it is open
abbrev pub IsKeptAt : Problem → List ℕ → List ℕ → ℕ → Type 0
IsKeptAt problem given kept p =
    (FitsKept problem given kept p × (slice_index kept p ≡ slice_index given p))
    ⊎ ((¬ FitsKept problem given kept p) × (slice_index kept p ≡ open_number problem))

-- What is kept of a given roster, legal or not: its pairings one after another in book order, each if it
-- is legal with what was kept before it.
pub record IsKeptOf (problem : Problem) (given kept : List ℕ) : Type 0 where
  pub covers : length kept ≡ length given
  pub each : (p : ℕ) → p < length given → IsKeptAt problem given kept p

-- ---- plans

-- The key is that of a legal roster. It isn't after what is kept of the given roster, nor after that of no
-- pairings at all. No legal roster costs less than the bound.
pub record IsPlan (problem : Problem) (given : List ℕ) (key : Key) (bound : ℤ) : Type 0 where
  pub held : IsHeld problem key
  pub kept : List ℕ
  pub is_kept : IsKeptOf problem given kept
  pub not_after_kept : key_le key (key_of problem kept) ≡ true
  pub not_after_open : key_le key (key_of problem (all_open problem)) ≡ true
  pub bounded : IsLowerBound problem bound

-- the text is that of a plan, with its bound
pub record IsPlanText (problem : Problem) (given : List ℕ) (text : List ℕ) : Type 0 where
  pub key : Key
  pub bound : ℤ
  pub plan : IsPlan problem given key bound
  pub written : IsPlanOf problem bound key.places text

-- the text is that of a plan, or the report of the best roster
abbrev pub IsPlanReport : Problem → List ℕ → List ℕ → Type 0
IsPlanReport problem given text = IsPlanText problem given text ⊎ IsBestReport problem text

-- ---- answers

-- the book has no fault, as `check` has them, and the text is a plan of it
pub record IsPlanned (book : List Record) (text : List ℕ) : Type 0 where
  pub faultless : (fault : Fault) → ¬ IsFirstFault Check book fault
  pub reports : IsPlanReport (problem_of book) (assigned_in book) text

-- the text answers the book that is to be planned
abbrev pub IsPlanAnswer : List Record → List ℕ → Type 0
IsPlanAnswer book text = IsRefusal Check book text ⊎ IsPlanned book text
