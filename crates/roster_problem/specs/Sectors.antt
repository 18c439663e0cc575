-- What the sectors of a duty keep.
use Rattle.std.specs.Prelude.{ℕ, ◌<◌, ◌≤◌, List, All, AllPairs}
use Rattle.roster_model.specs.records.Duty.{Sector}

-- sectors of a duty from one instant to another, in the order in which they are flown
pub record AreSectors (report release : ℕ) (sectors : List Sector) : Type 0 where
  pub begin : All (λ sector. report ≤ sector.off) sectors
  pub timed : All (λ sector. sector.off < sector.on) sectors
  pub end : All (λ sector. sector.on ≤ release) sectors
  pub apart : AllPairs (λ a b. a.on ≤ b.off) sectors
