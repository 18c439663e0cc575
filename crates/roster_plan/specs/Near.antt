-- Neighbourhoods of rosters.
use Rattle.std.specs.Prelude.{◌≡◌, ℕ, List, Some, slice_get, true}
use Rattle.roster_model.specs.Places.{set_of}
use Rattle.roster_model.specs.Problem.{Problem}
use Rattle.roster_model.specs.Rosters.{Key, IsLegalRoster, key_le}
use Rattle.roster_model.specs.Settled.{IsHeld, IsNotAfter}
use Rattle.roster_lines_table.specs.Entries.{Entry}
use Rattle.roster_lines_table.specs.Person.{IsOfTable}
use Rattle.roster_lines.specs.Between.{IsBetween}
use Rattle.roster_lines.specs.declared.wanted.Between.{Between}
use Rattle.roster_plan.specs.declared.nearby.Nearby.{Nearby}

-- each person keeps what they must, and has nothing but that and what they may have beside
abbrev pub IsNear : List Between → List ℕ → Type 0
IsNear wanted places =
    (k : ℕ) (between : Between) → slice_get wanted k ≡ Some between
    → IsBetween between.must between.may (set_of k places)

-- each legal roster of the neighbourhood has lines of the table
abbrev pub HasAllNear : Problem → List Between → List (List Entry) → Type 0
HasAllNear problem wanted table =
    (places : List ℕ) → IsLegalRoster problem places → IsNear wanted places → IsOfTable table places

-- It is a legal roster that isn't after the known one. If the neighbourhood is settled, none of it is earlier.
pub record IsFoundNear (problem : Problem) (known : Key) (wanted : List Between) (nearby : Nearby) : Type 0 where
  pub held : IsHeld problem nearby.roster
  pub kept : key_le nearby.roster known ≡ true
  pub settled : nearby.is_settled ≡ true → IsNotAfter problem (IsNear wanted) nearby.roster
