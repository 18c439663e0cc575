-- What pairings take of one of the sums that limits judge.
use Rattle.std.specs.Prelude.{◌≡◌, ℕ, ◌≤◌, List, [], filter, length, map, slice_get, slice_index, Some, All}
use Rattle.std.specs.List.{sum_by}
use Rattle.roster_model.specs.Lines.{IsLine}
use Rattle.roster_model.specs.Problem.{Problem, eleven_of, home_of, year_of}
use Rattle.roster_model.specs.Rules.{duty_list}
use Rattle.roster_problem.specs.Duties.{is_of_pairing}
use Rattle.roster_cumulative.specs.Judged.{judged_sums, load_of, room_of}
use Rattle.roster_legal.specs.Stepping.{IsLoadOf}
use Rattle.roster_plan_bound.specs.declared.loads.Taken.{Taken}
use Rattle.roster_plan_bound.specs.declared.parts.TheConstants.{MOST_LOAD}

-- what the pairing takes of the sum at that place, and what fixed duties leave of it; nothing past the last
abbrev pub load_at : Problem → ℕ → ℕ → ℕ → ℕ
load_at problem k at p =
    slice_index (map (load_of (home_of problem k).days (filter (is_of_pairing p) problem.duties)) (judged_sums (home_of problem k).days)) at

abbrev pub room_at : Problem → ℕ → ℕ → ℕ
room_at problem k at =
    slice_index (map (room_of (home_of problem k).days (duty_list problem k []) (year_of problem k) (eleven_of problem k)) (judged_sums (home_of problem k).days)) at

-- what each pairing takes of all sums
pub record AreLoadsOf (problem : Problem) (k : ℕ) (each : List Taken) : Type 0 where
  pub covers : length each ≡ length problem.pairings
  pub are : (p : ℕ) (taken : Taken) → slice_get each p ≡ Some taken → IsLoadOf problem k p taken.minutes.items

-- Of each pairing it is known what it takes of something. The pairings of a line take no more than is left of it.
pub record AreLoads (problem : Problem) (k : ℕ) (loads : List ℕ) (spare : ℕ) : Type 0 where
  pub covers : length loads ≡ length problem.pairings
  pub small : All (λ load. load ≤ MOST_LOAD) loads
  pub few : spare ≤ MOST_LOAD
  pub within : (set : List ℕ) → IsLine problem k set → sum_by (slice_index loads) set ≤ spare
