-- What a search keeps of the rosters that it is shown.
use Rattle.std.specs.Prelude.{◌≡◌, ℕ, true}
use Rattle.roster_model.specs.Problem.{Problem}
use Rattle.roster_model.specs.Rosters.{Key, key_le}
use Rattle.roster_model.specs.Settled.{IsHeld}

-- a watch: the problem, at which nodes it looks, and the earliest legal roster that it has seen
pub record Watched : Type 0 where
  pub problem : Problem
  pub every : ℕ
  pub best : Key

-- its roster stays that of a legal roster, gets no later, and changes only where it looks
pub record KeepsWatch (old new : Watched) : Type 0 where
  pub problem : new.problem ≡ old.problem
  pub every : new.every ≡ old.every
  pub held : IsHeld old.problem old.best → IsHeld new.problem new.best
  pub kept : key_le new.best old.best ≡ true
  pub blind : old.every ≡ 0 → new.best ≡ old.best
