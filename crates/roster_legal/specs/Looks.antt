-- What the limits look at.
use Rattle.std.specs.Prelude.{◌≡◌, ℕ, List, Some, slice_get}
use Rattle.roster_model.specs.Problem.{Problem, home_of}
use Rattle.roster_model.specs.Rules.{duty_list}
use Rattle.roster_cumulative.specs.Limited.{Limited}

-- The limits look at person k with the set.
pub record LookAt (problem : Problem) (k : ℕ) (set : List ℕ) (limits : Limited) : Type 0 where
  pub days : limits.days ≡ (home_of problem k).days
  pub list : limits.list ≡ duty_list problem k set
  pub person : slice_get problem.persons k ≡ Some limits.carried
