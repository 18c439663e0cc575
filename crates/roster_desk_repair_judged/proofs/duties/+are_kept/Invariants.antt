use Rattle.std.proofs.Common.{length}
use Rattle.roster_desk_repair_judged.proofs.duties.+are_kept.Given as goal

abbrev pub decreases-are_kept : goal.decreases-are_kept
decreases-are_kept l = length l.before.now
