-- What flight is put together from, and how far amounts go by the limits of a book.
use Rattle.std.specs.Prelude.{ℕ, ◌+◌, ◌*◌, [], length, ℤ, pos, neg_ℤ, ◌≤ℤ◌}
use Rattle.std.specs.List.{filter, range_with_len}
use Rattle.roster_model.specs.declared.limits.TheConstants.{MOST_DUTIES, MOST_MINUTES, MOST_MONTH_MINUTES, MOST_PAIRINGS, MOST_PERSONS, MOST_UNITS, MOST_WEIGHT}
use Rattle.roster_model.specs.declared.profile.TheConstants.{MOST_FLIGHT_IN_A_YEAR}
use Rattle.roster_model.specs.Costs.{line_cost, total}
use Rattle.roster_model.specs.Problem.{Problem, home_of}
use Rattle.roster_model.specs.Sums.{month_flight}
use Rattle.roster_problem.specs.Duties.{is_of_pairing}

-- the month's flight of the duties of the pairing at place p, by the days of person k
abbrev pub minutes_of_pairing : Problem → ℕ → ℕ → ℕ
minutes_of_pairing problem k p =
    month_flight (home_of problem k).days (filter (is_of_pairing p) problem.duties)

-- no further from 0 than so much
abbrev pub IsWithin : ℕ → ℤ → Type 0
IsWithin most z = (neg_ℤ (pos most) ≤ℤ z) × (z ≤ℤ pos most)

-- the most minutes of flight that a person has in the month
abbrev pub most_flight : ℕ
most_flight = MOST_DUTIES * MOST_MONTH_MINUTES

-- the most units that a set has, and a roster
abbrev pub most_units : ℕ
most_units = MOST_PAIRINGS * MOST_UNITS

-- the most that a line costs or saves
abbrev pub most_line_cost : ℕ
most_line_cost = most_units + MOST_WEIGHT * (most_flight + MOST_MINUTES)

-- what it costs at most that all persons miss their targets: each duty is on one list at most
abbrev pub most_missed : ℕ
most_missed = MOST_WEIGHT * (MOST_DUTIES * MOST_MONTH_MINUTES + MOST_PERSONS * MOST_MINUTES)

-- The most by which a line costs or saves more than no pairings do: a line with pairings keeps the limit
-- of a year's flight, and the fixed duties have no more.
abbrev pub most_extra : ℕ
most_extra = most_units + MOST_WEIGHT * MOST_FLIGHT_IN_A_YEAR

-- what persons cost with no pairing
abbrev pub cost_without_pairings : Problem → ℤ
cost_without_pairings problem =
    total (λ k. line_cost problem k []) (range_with_len 0 (length problem.persons))
