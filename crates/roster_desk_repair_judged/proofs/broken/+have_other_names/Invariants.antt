use Rattle.std.proofs.Common.{length}
use Rattle.roster_desk_repair_judged.proofs.broken.+have_other_names.Given as goal

abbrev pub decreases-have_other_names : goal.decreases-have_other_names
decreases-have_other_names l = length l.duties.now
