use Rattle.std.proofs.Common.{length}
use Rattle.roster_desk_repair_judged.proofs.broken.+has_positioning.Given as goal

abbrev pub decreases-has_positioning : goal.decreases-has_positioning
decreases-has_positioning l = length l.duties.now
