use Rattle.std.proofs.Common.{length}
use Rattle.roster_desk_repair_judged.proofs.broken.+are_turned.Given as goal

abbrev pub decreases-are_turned : goal.decreases-are_turned
decreases-are_turned l = length l.after.now
