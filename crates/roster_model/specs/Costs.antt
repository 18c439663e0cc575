-- What rosters cost: this project's own. Costs are whole numbers, and may be negative.
use Rattle.std.specs.Prelude.{ℕ, ◌+◌, ◌-◌, ◌*◌, ◌==◌, nat_lt, if◌then◌else◌, List, [], ◌∷◌, length, ℤ, pos, ◌+ℤ◌}
use Rattle.std.specs.List.{range_with_len}
use Rattle.roster_model.specs.records.Pairing.{Pairing}
use Rattle.roster_model.specs.Problem.{Problem, home_of, target_of, units_of, weight_of}
use Rattle.roster_model.specs.Places.{set_of, open_number}
use Rattle.roster_model.specs.Rules.{duty_list}
use Rattle.roster_model.specs.Sums.{month_flight}

-- the sum of a cost of each element
unfoldable pub total : {X : Type 0} → (X → ℤ) → List X → ℤ
total cost [] = pos 0
total cost (x ∷ xs) = cost x +ℤ total cost xs

-- how far two numbers are from one another
abbrev pub distance : ℕ → ℕ → ℕ
distance a b = (a - b) + (b - a)

-- ---- what a person's set costs

-- the minutes of flight in the month of person k with the set, fixed duties included
abbrev pub flight_of : Problem → ℕ → List ℕ → ℕ
flight_of problem k set = month_flight (home_of problem k).days (duty_list problem k set)

-- the minutes by which that misses the target, weighed
abbrev pub missed_target : Problem → ℕ → List ℕ → ℕ
missed_target problem k set =
    weight_of problem * distance (flight_of problem k set) (target_of problem k)

-- the cost units of the set's pairings with person k, and the missed target
abbrev pub line_cost : Problem → ℕ → List ℕ → ℤ
line_cost problem k set = total (units_of problem k) set +ℤ pos (missed_target problem k set)

-- ---- what a list of places costs

-- the penalties of the pairings that are left open
abbrev pub open_penalties : ℕ → List Pairing → List ℕ → ℕ
open_penalties nobody [] places = 0
open_penalties nobody (pairing ∷ pairings) [] = 0
open_penalties nobody (pairing ∷ pairings) (x ∷ places) =
    (if x == nobody then pairing.penalty else 0) + open_penalties nobody pairings places

-- the cost units of each placed pairing with its person; the first number is that of pairing p
abbrev pub placed_units : Problem → ℕ → List ℕ → ℤ
placed_units problem p [] = pos 0
placed_units problem p (x ∷ places) =
    (if nat_lt x (open_number problem) then units_of problem x p else pos 0)
    +ℤ placed_units problem (p + 1) places

-- the missed targets of all persons
abbrev pub missed_targets : Problem → List ℕ → ℤ
missed_targets problem places =
    total (λ k. pos (missed_target problem k (set_of k places))) (range_with_len 0 (length problem.persons))

-- what a roster costs
unfoldable pub cost_of : Problem → List ℕ → ℤ
cost_of problem places =
    pos (open_penalties (open_number problem) problem.pairings places)
    +ℤ placed_units problem 0 places
    +ℤ missed_targets problem places
