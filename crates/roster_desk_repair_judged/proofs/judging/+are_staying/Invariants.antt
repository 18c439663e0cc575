use Rattle.std.proofs.Common.{length}
use Rattle.roster_desk_repair_judged.proofs.judging.+are_staying.Given as goal

abbrev pub decreases-are_staying : goal.decreases-are_staying
decreases-are_staying l = length l.fixed.now
