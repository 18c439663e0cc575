use Rattle.std.proofs.Common.{length}
use Rattle.roster_desk_repair_judged.proofs.duties.+rank.Given as goal

abbrev pub decreases-rank : goal.decreases-rank
decreases-rank l = length l.fixed.now
