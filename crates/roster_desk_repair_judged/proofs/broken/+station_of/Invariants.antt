use Rattle.std.proofs.Common.{length}
use Rattle.roster_desk_repair_judged.proofs.broken.+station_of.Given as goal

abbrev pub decreases-station_of : goal.decreases-station_of
decreases-station_of l = length l.duties.now
