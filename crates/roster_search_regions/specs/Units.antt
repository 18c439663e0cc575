-- Amounts that are so many times a unit.
use Rattle.std.specs.Prelude.{◌≡◌, ℕ, ◌*◌, ℤ, pos, ◌-ℤ◌}

-- so many times the unit, above 0 or below
pub record IsMultiple (unit : ℕ) (amount : ℤ) : Type 0 where
  pub more : ℕ
  pub less : ℕ
  pub is : amount ≡ pos (unit * more) -ℤ pos (unit * less)
