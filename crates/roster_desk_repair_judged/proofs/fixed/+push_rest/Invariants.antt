use Rattle.std.proofs.Common.{length}
use Rattle.roster_desk_repair_judged.proofs.fixed.+push_rest.Given as goal

abbrev pub decreases-push_rest : goal.decreases-push_rest
decreases-push_rest l = length l.fixed.now
