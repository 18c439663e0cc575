-- Fair targets: what there is to fly at a base, shared out to the minute.
use Rattle.std.specs.Prelude.{◌≡◌, ◌<◌, ◌+◌, ◌-◌, ◌*◌, ◌/◌, ◌==◌, ◌||◌, ◌∷◌, Bool, List, [], if◌then◌else◌, length, map, not, slice_get, sum, unwrap_or, option_map, ℕ}
use Rattle.std.specs.List.{list_all, range_with_len, sum_by}
use Rattle.roster_cost.specs.Amounts.{minutes_of_pairing}
use Rattle.roster_model.specs.Costs.{flight_of}
use Rattle.roster_model.specs.Problem.{Problem, target_of}
use Rattle.roster_model.specs.records.Crew.{Person}

-- ---- shares

-- what comes to a weight of the whole, where those before it come to so much: each sum is rounded down
abbrev pub share_of : ℕ → ℕ → ℕ → ℕ → ℕ
share_of flight whole before own = flight * (before + own) / whole - flight * before / whole

unfoldable pub shares_from : ℕ → ℕ → ℕ → List ℕ → List ℕ
shares_from flight whole before [] = []
shares_from flight whole before (own ∷ rest) =
    share_of flight whole before own ∷ shares_from flight whole (before + own) rest

-- of all weights, one after another
abbrev pub shares_of : ℕ → List ℕ → List ℕ
shares_of flight weights = shares_from flight (sum weights) 0 weights

-- less than one away from its part of the flight, which own / whole of it is: both times the whole
pub record IsNear (flight whole own share : ℕ) : Type 0 where
  pub most : share * whole < flight * own + whole
  pub least : flight * own < share * whole + whole

-- ---- whose base it is

abbrev pub base_of : Problem → ℕ → ℕ
base_of problem k = unwrap_or (option_map (λ person. person.base) (slice_get problem.persons k)) 0

abbrev pub base_of_pairing : Problem → ℕ → ℕ
base_of_pairing problem p = unwrap_or (option_map (λ pairing. pairing.base) (slice_get problem.pairings p)) 0

-- ---- what there is to fly

-- the month's flight of the fixed duties of person j, if the person is of the base of person k
abbrev pub fixed_beside : Problem → ℕ → ℕ → ℕ
fixed_beside problem k j = if base_of problem j == base_of problem k then flight_of problem j [] else 0

-- the month's flight of the pairing at place p, if it is of the base of person k
abbrev pub pairing_beside : Problem → ℕ → ℕ → ℕ
pairing_beside problem k p =
    if base_of_pairing problem p == base_of problem k then minutes_of_pairing problem k p else 0

abbrev pub fixed_at : Problem → ℕ → ℕ
fixed_at problem k = sum_by (fixed_beside problem k) (range_with_len 0 (length problem.persons))

abbrev pub pairings_at : Problem → ℕ → ℕ
pairings_at problem k = sum_by (pairing_beside problem k) (range_with_len 0 (length problem.pairings))

-- at the base of person k
abbrev pub to_fly : Problem → ℕ → ℕ
to_fly problem k = fixed_at problem k + pairings_at problem k

-- ---- fair targets

-- nobody of the base has a target
abbrev pub is_bare : List Person → ℕ → Bool
is_bare persons base = list_all (λ person. not (person.base == base) || (person.target == 0)) persons

-- what a person of the base counts: the target, and one if nobody there has one
abbrev pub weight_in : Bool → ℕ → Person → ℕ
weight_in bare base person = if person.base == base then (if bare then 1 else person.target) else 0

abbrev pub weights_at : Problem → ℕ → List ℕ
weights_at problem base = map (weight_in (is_bare problem.persons base) base) problem.persons

-- the share of person k in what there is to fly at the home base
abbrev pub fair_target : Problem → ℕ → ℕ
fair_target problem k =
    unwrap_or (slice_get (shares_of (to_fly problem k) (weights_at problem (base_of problem k))) k) 0

-- the second book has the fair targets of the first
pub record IsFair (book fair : Problem) : Type 0 where
  pub persons : length fair.persons ≡ length book.persons
  pub targets : (k : ℕ) → k < length book.persons → target_of fair k ≡ fair_target book k
