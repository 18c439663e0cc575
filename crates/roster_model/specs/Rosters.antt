-- Rosters: one number for each pairing in book order, the place of the person who flies it, or the
-- number of persons if it is left open. Each person so has one line, and each pairing is covered
-- once or open: the set partitioning model of Kohl and Karisch, "Airline Crew Rostering: Problem
-- Types, Modeling, and Optimization", Annals of Operations Research 127, 2004. That a pairing may be
-- left open at a penalty is this project's own, as are the costs and the order of rosters.
use Rattle.std.specs.Prelude.{◌≡◌, ℕ, ◌<◌, ◌≤◌, Bool, ◌&&◌, ◌||◌, List, length, Option, ℤ, int_lt, All}
use Rattle.std.specs.Ordering.{int_eq}
use Rattle.roster_model.specs.Problem.{Problem}
use Rattle.roster_model.specs.Rules.{Rule, AreOfEach, IsLegal, IsVerdict}
use Rattle.roster_model.specs.Places.{set_of, places_le}
use Rattle.roster_model.specs.Costs.{cost_of}

-- one number for each pairing, a person's place or open, and the set of each person is legal
pub record IsLegalRoster (problem : Problem) (places : List ℕ) : Type 0 where
  pub covers : length places ≡ length problem.pairings
  pub numbers : All (λ x. x ≤ length problem.persons) places
  pub legal : (k : ℕ) → k < length problem.persons → IsLegal problem k (set_of k places)

-- what is said of person k with their set of the roster
abbrev pub IsVerdictIn : Problem → List ℕ → ℕ → Option Rule → Type 0
IsVerdictIn problem places k verdict = IsVerdict problem k (set_of k places) verdict

-- what is said of each person
abbrev pub AreVerdicts : Problem → List ℕ → List (Option Rule) → Type 0
AreVerdicts problem places verdicts = AreOfEach (IsVerdictIn problem places) problem verdicts

-- a roster's key: its cost, and then its list
pub record Key : Type 0 where
  pub cost : ℤ
  pub places : List ℕ

abbrev pub key_of : Problem → List ℕ → Key
key_of problem places = record { cost = cost_of problem places; places = places }

-- the first key isn't after the second: by cost, and then by the lists
abbrev pub key_le : Key → Key → Bool
key_le a b = int_lt a.cost b.cost || int_eq a.cost b.cost && places_le a.places b.places
