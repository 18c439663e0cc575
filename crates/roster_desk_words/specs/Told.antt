-- What is told of.
use Rattle.std.specs.Prelude.{ℕ, List}
use Rattle.roster_model.specs.Problem.{Problem}

-- a problem, and a roster of it, which needn't be legal
pub record Told : Type 0 where
  pub problem : Problem
  pub places : List ℕ
