use Rattle.std.proofs.Common.{length}
use Rattle.roster_desk_repair_judged.proofs.broken.+are_with_rest.Given as goal

abbrev pub decreases-are_with_rest : goal.decreases-are_with_rest
decreases-are_with_rest l = length l.before.now
