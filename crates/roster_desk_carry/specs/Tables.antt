-- Which tables have what is carried.
use Rattle.std.specs.Prelude.{◌∷◌, List, []}
use Rattle.roster_desk_sheets.specs.declared.tables.Table.{Table}
use Rattle.roster_desk_sheets.specs.declared.tables.Table.TheVariants as tables

-- each once, in the order in which they are written
abbrev pub carried : List Table
carried = tables.CarriedActivities ∷ tables.CarriedSectors ∷ tables.CarriedLeave ∷ tables.CarriedFlown ∷ []
