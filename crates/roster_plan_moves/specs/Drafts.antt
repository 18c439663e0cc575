-- What a draft keeps.
use Rattle.std.specs.Prelude.{◌≡◌, ℕ, List}
use Rattle.roster_model.specs.Problem.{Problem}
use Rattle.roster_model.specs.Rosters.{IsLegalRoster}

-- the judge is of the problem, and so are the rosters, which are legal
pub record IsDraft (problem judged : Problem) (places settled best : List ℕ) : Type 0 where
  pub judge : judged ≡ problem
  pub now : IsLegalRoster problem places
  pub before : IsLegalRoster problem settled
  pub kept : IsLegalRoster problem best
