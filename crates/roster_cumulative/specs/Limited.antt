-- What the limits look at.
use Rattle.std.specs.Prelude.{List}
use Rattle.roster_model.specs.Calendar.{Days}
use Rattle.roster_model.specs.records.Crew.{Person}
use Rattle.roster_model.specs.records.Duty.{Duty}
use Rattle.roster_model.specs.Rules.{Limit, HoldsLimit}

-- a duty list, with the days of a base, and the person who has flown so much before the month
pub record Limited : Type 0 where
  pub days : Days
  pub list : List Duty
  pub carried : Person

-- what the limit says of it
abbrev pub IsKept : Limited → Limit → Type 0
IsKept l limit = HoldsLimit l.days l.list l.carried.year l.carried.eleven limit
