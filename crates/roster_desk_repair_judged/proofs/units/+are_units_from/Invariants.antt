use Rattle.std.proofs.Common.{length}
use Rattle.roster_desk_repair_judged.proofs.units.+are_units_from.Given as goal

abbrev pub decreases-are_units_from : goal.decreases-are_units_from
decreases-are_units_from l = length l.published.now
