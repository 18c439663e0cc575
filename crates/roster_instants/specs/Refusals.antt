-- Which answer tells which refusal of a zone text.
use Rattle.std.specs.Prelude.{◌≡◌, Result, Err, IsOk}
use Rattle.roster_model.specs.Calendar.{Days}
use Rattle.roster_model.specs.Zone.{ZoneRefusal, NotRead}
use Rattle.roster_model.specs.Zone as zone
use Rattle.roster_instants.specs.declared.days.ZoneFault.{ZoneFault}
use Rattle.roster_instants.specs.declared.days.ZoneFault.TheVariants.{Refused, NotMinutes, NotRising, Memory}

-- the fault that is told of what the text stands for; only memory if it does stand for days
abbrev pub IsFaultOf : Result Days ZoneRefusal → ZoneFault → Type 0
IsFaultOf days Refused = days ≡ Err NotRead
IsFaultOf days NotMinutes = days ≡ Err zone.NotMinutes
IsFaultOf days NotRising = days ≡ Err zone.NotRising
IsFaultOf days Memory = IsOk days
